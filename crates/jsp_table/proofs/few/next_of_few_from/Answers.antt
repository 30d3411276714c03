use Rattle.std.proofs.Common.{◌∙◌}
use Rattle.jsp_table.proofs.Next.{got, next_at}
use Rattle.jsp_table.proofs.few.next_of_few_from.Goals as goal

pub returns : goal.returns
returns c =
    let place = c.place_from-found.result in
    let xs = c.args.numbers.now in
    c.copied.ensures ∙ (got xs place c.get.result c.get.ensures.lookup.3 ∙ next_at xs c.args.number place c.place_from-found.ensures.within c.place_from-found.ensures.before c.place_from-found.ensures.beyond)

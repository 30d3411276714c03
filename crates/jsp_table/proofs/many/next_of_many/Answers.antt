use Rattle.std.proofs.Common.{◌≡◌, ◌∙◌, ap, arith, rules}
use Rattle.std.specs.Prelude.{slice_get, option_copied}
use Rattle.std.proofs.lemmas.Grind.{common_steps}
use Rattle.jsp_table.proofs.Next.{taken, next_in}
use Rattle.jsp_table.proofs.many.next_of_many.Goals as goal

pub returns : goal.returns
returns c =
    let e : c.copied.result ≡ option_copied c.next.result = first_of (search rules, grind (arith, common_steps)) in
    e ∙ (taken c.range.result c.next.new.self c.next.result c.next.ensures.steps ∙ (ap (λ w. slice_get w 0) (c.range.ensures.between tt) ∙ next_in c.args.numbers.now.keys c.args.number))

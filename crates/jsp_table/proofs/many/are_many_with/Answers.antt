use Rattle.std.proofs.Common.{◌∙◌}
use Rattle.jsp_table.proofs.Next.{has_key}
use Rattle.jsp_table.proofs.many.are_many_with.Goals as goal

pub returns : goal.returns
returns c = c.contains.ensures ∙ has_key c.args.numbers.now.keys c.args.number

use Rattle.std.proofs.Common.{sym, ◌∙◌}
use Rattle.jsp_index.proofs.Classes.{only_named}
use Rattle.jsp_index.proofs.seeing.is_only.Goals as goal

pub returns-then-len-eq1 : goal.returns-then-len-eq1
returns-then-len-eq1 c = only_named c.args.numbers.now c.args.number c.contains.result (sym c.len.ensures.len ∙ c.if-len-eq1.true) c.contains.ensures

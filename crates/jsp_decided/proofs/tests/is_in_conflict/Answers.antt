use Rattle.std.proofs.Common.{sym, ◌∙◌}
use Rattle.jsp_decided.proofs.Marks.{conflict_after}
use Rattle.jsp_decided.proofs.tests.is_in_conflict.Goals as goal

pub returns-in-Some : goal.returns-in-Some
returns-in-Some c = c.is_withheld.ensures ∙ conflict_after c.args.recorded.now c.args.row.now c.in-Some.left (sym c.in-Some.ensures) c.args.classes.now c.args.blocked.now

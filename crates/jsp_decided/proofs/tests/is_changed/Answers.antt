use Rattle.std.proofs.Common.{sym, ◌∙◌}
use Rattle.jsp_decided.proofs.Marks.{changed_after}
use Rattle.jsp_decided.proofs.tests.is_changed.Goals as goal

pub returns-in-Some : goal.returns-in-Some
returns-in-Some c = c.changes.ensures ∙ changed_after c.args.recorded.now c.args.row.now c.in-Some.left (sym c.in-Some.ensures) c.args.x c.args.space

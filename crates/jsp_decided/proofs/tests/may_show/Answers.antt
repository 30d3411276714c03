use Rattle.std.proofs.Common.{sym, ◌∙◌}
use Rattle.jsp_decided.proofs.Marks.{shown_after}
use Rattle.jsp_decided.proofs.tests.may_show.Goals as goal

pub returns-in-Some : goal.returns-in-Some
returns-in-Some c = c.is_shown.ensures ∙ shown_after c.args.recorded.now c.args.row.now c.in-Some.left (sym c.in-Some.ensures) c.args.classes.now c.args.set.now

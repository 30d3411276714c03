use Rattle.std.proofs.Common.{sym}
use Rattle.jsp_decided.proofs.Marks.{in_after}
use Rattle.jsp_decided.proofs.tests.is_in.Goals as goal

pub returns-in-Some : goal.returns-in-Some
returns-in-Some c = in_after c.args.recorded.now c.args.row.now c.in-Some.field-0 (sym c.in-Some.ensures) c.args.space

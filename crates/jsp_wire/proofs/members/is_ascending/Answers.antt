use Rattle.std.proofs.Common.{arith}
use Rattle.jsp_wire.proofs.Placed.{view_in_order}
use Rattle.jsp_wire.proofs.members.is_ascending.Goals as goal

pub returns : goal.returns
returns c = λ yes. view_in_order c.args.members.now (λ d k within. c.loop-later.invariant d k (omega (arith, within, c.loop-later-test.false)))

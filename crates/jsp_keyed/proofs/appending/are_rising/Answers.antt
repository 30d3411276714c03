use Rattle.std.proofs.Common.{arith}
use Rattle.jsp_keyed.proofs.Joining.{one_above}
use Rattle.jsp_keyed.proofs.appending.are_rising.Goals as goal

pub things-preserved : goal.things-preserved
things-preserved g c =
    let next = one_above g.K.Numbering.number_of c.args.things.now c.things.thing-index c.things.last c.number-number.result c.thing-item.result c.things-test.true c.thing-item.is c.number-number.ensures (omega (arith, c.if-number-last.false)) c.things.invariant.rising c.things.invariant.positive c.things.invariant.below in
    record { rising = next.0; positive = next.1.0; below = next.1.1 }

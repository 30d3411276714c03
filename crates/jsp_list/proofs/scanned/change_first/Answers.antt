use Rattle.std.proofs.Common.{arith}
use Rattle.jsp_table.proofs.Places.{one_more}
use Rattle.jsp_keyed.specs.Changing.{where_passed}
use Rattle.jsp_list.proofs.scanned.change_first.Goals as goal

pub places-preserved : goal.places-preserved
places-preserved g c =
    one_more (where_passed (g.P.Test.is_passed c.args.test.now) (g.C.Change.changed c.args.change.now)) c.args.things.now c.places.things c.places.place _ _ (omega arith) c.places.invariant c.change_one.ensures

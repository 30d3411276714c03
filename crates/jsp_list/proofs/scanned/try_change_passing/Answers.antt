use Rattle.jsp_table.proofs.Places.{one_more, back}
use Rattle.jsp_keyed.specs.Changing.{where_passed}
use Rattle.jsp_list.proofs.Undoing.{undone}
use Rattle.jsp_list.proofs.scanned.try_change_passing.Goals as goal

pub places-preserved : goal.places-preserved
places-preserved g c =
    one_more (where_passed (g.P.Test.is_passed c.args.test.now) (g.C.TryChange.changed c.args.change.now)) c.args.things.now c.places.things c.places.place _ _ c.places-test.true c.places.invariant c.in_default.ensures.ok

pub returns-in-Err-clause-err : goal.returns-in-Err-clause-err
returns-in-Err-clause-err g c =
    let passed = g.P.Test.is_passed c.args.test.now in
    let change = g.C.TryChange.changed c.args.change.now in
    let undo = g.U.Change.changed c.args.undo.now in
    back (where_passed passed change) (where_passed passed undo) (undone passed change undo c.requires) _ c.places.things _ c.places.place _ _ c.places.invariant c.in-Err.ensures.err c.change_first.ensures

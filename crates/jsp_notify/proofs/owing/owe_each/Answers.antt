use Rattle.jsp_notify.specs.Owing.{owed, forgiven}
use Rattle.jsp_table.proofs.Places.{one_more, back}
use Rattle.jsp_notify.proofs.Owed.{forgiven-owed}
use Rattle.jsp_notify.proofs.owing.owe_each.Goals as goal

pub places-preserved : goal.places-preserved
places-preserved c =
    let change = owed c.args.classes.now c.args.caller c.args.rows.now in
    one_more change c.args.registrations.now c.places.registrations c.places.place _ _ c.places-test.true c.places.invariant c.in_default.ensures.ok

pub returns-in-Err-clause-err : goal.returns-in-Err-clause-err
returns-in-Err-clause-err c =
    let change = owed c.args.classes.now c.args.caller c.args.rows.now in
    let undo = forgiven c.args.classes.now c.args.caller c.args.rows.now in
    back change undo (forgiven-owed c.args.classes.now c.args.caller c.args.rows.now) _ c.places.registrations _ c.places.place _ _ c.places.invariant c.in-Err.ensures.err c.forgive_first.ensures

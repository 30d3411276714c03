use Rattle.jsp_notify.specs.Owing.{owed_within, forgiven_within}
use Rattle.jsp_table.proofs.Places.{one_more, back}
use Rattle.jsp_notify.proofs.Owed.{forgiven-within}
use Rattle.jsp_notify.proofs.owing.owe_each_within.Goals as goal

pub places-preserved : goal.places-preserved
places-preserved c =
    let change = owed_within c.args.classes.now c.args.caller c.args.row.now c.args.range.from c.args.range.below in
    one_more change c.args.registrations.now c.places.registrations c.places.place _ _ c.places-test.true c.places.invariant c.in_default.ensures.ok

pub returns-in-Err-clause-err : goal.returns-in-Err-clause-err
returns-in-Err-clause-err c =
    let range = c.args.range in
    let change = owed_within c.args.classes.now c.args.caller c.args.row.now range.from range.below in
    let undo = forgiven_within c.args.classes.now c.args.caller c.args.row.now range.from range.below in
    back change undo (forgiven-within c.args.classes.now c.args.caller c.args.row.now range.from range.below) _ c.places.registrations _ c.places.place _ _ c.places.invariant c.in-Err.ensures.err c.forgive_first_within.ensures

use Rattle.std.proofs.Common.{arith}
use Rattle.jsp_notify.specs.Owing.{forgiven}
use Rattle.jsp_table.proofs.Places.{one_more}
use Rattle.jsp_notify.proofs.owing.forgive_first.Goals as goal

pub places-preserved : goal.places-preserved
places-preserved c =
    let change = forgiven c.args.classes.now c.args.caller c.args.rows.now in
    one_more change c.args.registrations.now c.places.registrations c.places.place _ _ (omega arith) c.places.invariant c.forgive.ensures

use Rattle.std.proofs.Common.{arith}
use Rattle.jsp_notify.specs.Owing.{forgiven_within}
use Rattle.jsp_table.proofs.Places.{one_more}
use Rattle.jsp_notify.proofs.owing.forgive_first_within.Goals as goal

pub places-preserved : goal.places-preserved
places-preserved c =
    let change = forgiven_within c.args.classes.now c.args.caller c.args.row.now c.args.range.from c.args.range.below in
    one_more change c.args.registrations.now c.places.registrations c.places.place _ _ (omega arith) c.places.invariant c.forgive_within.ensures

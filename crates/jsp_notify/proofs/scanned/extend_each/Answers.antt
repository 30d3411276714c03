use Rattle.jsp_table.proofs.Places.{one_more}
use Rattle.jsp_notify.specs.Registered.{registration_ending}
use Rattle.jsp_notify.proofs.scanned.extend_each.Goals as goal

pub registrations-preserved : goal.registrations-preserved
registrations-preserved c = one_more (registration_ending c.args.number c.args.end) _ _ _ _ _ c.registrations-test.true c.registrations.invariant c.extend_registration.ensures

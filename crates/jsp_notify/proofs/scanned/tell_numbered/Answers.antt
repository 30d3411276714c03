use Rattle.jsp_table.proofs.Places.{one_more}
use Rattle.jsp_notify.specs.Registered.{telling}
use Rattle.jsp_notify.proofs.scanned.tell_numbered.Goals as goal

pub registrations-preserved : goal.registrations-preserved
registrations-preserved c = one_more (telling c.args.number) _ _ _ _ _ c.registrations-test.true c.registrations.invariant c.tell_if.ensures

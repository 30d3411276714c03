use Rattle.std.proofs.Common.{◌≡◌, ◌++◌, map, take, drop}
use Rattle.jsp_notify.specs.Registered.{telling}
use Rattle.jsp_notify.proofs.scanned.tell_numbered.Given as goal

abbrev pub invariant-registrations : goal.invariant-registrations
invariant-registrations l = l.registrations ≡ map (telling l.number) (take l.registration-index l.initial.registrations) ++ drop l.registration-index l.initial.registrations

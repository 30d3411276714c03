use Rattle.std.proofs.Common.{◌≡◌, ◌++◌, map, take, drop}
use Rattle.jsp_notify.specs.Registered.{registration_ending}
use Rattle.jsp_notify.proofs.scanned.extend_each.Given as goal

abbrev pub invariant-registrations : goal.invariant-registrations
invariant-registrations l = l.registrations ≡ map (registration_ending l.number l.end) (take l.registration-index l.initial.registrations) ++ drop l.registration-index l.initial.registrations

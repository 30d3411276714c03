use Rattle.std.proofs.Common.{◌≡◌, take}
use Rattle.jsp_notify.proofs.scanned.copies_of.Given as goal

abbrev pub invariant-registrations : goal.invariant-registrations
invariant-registrations l = l.copies ≡ take l.registration-index l.registrations

use Rattle.std.proofs.Common.{◌≡◌, ◌++◌, length, reverse}
use Rattle.jsp_notify.proofs.heard.Heard.of.Given as goal

abbrev pub invariant-registrations : goal.invariant-registrations
invariant-registrations l = l.made ++ reverse l.registrations.items ≡ l.fn.registrations

abbrev pub decreases-registrations : goal.decreases-registrations
decreases-registrations l = length l.registrations.items

use Rattle.std.proofs.Common.{◌≡◌, not, length}
use Rattle.std.specs.Prelude.{filter}
use Rattle.jsp_notify.proofs.hinted.HintedRegistrations.remove_all.Given as goal

abbrev pub invariant-registrations : goal.invariant-registrations
invariant-registrations g l = filter (λ r. not (g.P.Test.is_passed l.test r)) l.self ≡ filter (λ r. not (g.P.Test.is_passed l.test r)) l.fn.self

abbrev pub decreases-registrations : goal.decreases-registrations
decreases-registrations g l = length l.self

use Rattle.std.proofs.Common.{◌≡◌, not, length}
use Rattle.std.specs.Prelude.{filter, ◌==◌}
use Rattle.jsp_wait.proofs.found.Found.remove_each_of.Given as goal

abbrev pub invariant-requests : goal.invariant-requests
invariant-requests l = filter (λ b. not (b.session == l.session)) l.self ≡ filter (λ b. not (b.session == l.session)) l.fn.self

abbrev pub decreases-requests : goal.decreases-requests
decreases-requests l = length l.self

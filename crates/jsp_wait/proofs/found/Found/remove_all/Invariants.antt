use Rattle.std.proofs.Common.{◌≡◌, not, length}
use Rattle.std.specs.Prelude.{filter}
use Rattle.jsp_wait.proofs.found.Found.remove_all.Given as goal

abbrev pub invariant-requests : goal.invariant-requests
invariant-requests g l = filter (λ b. not (g.P.Test.is_passed l.test b)) l.self ≡ filter (λ b. not (g.P.Test.is_passed l.test b)) l.fn.self

abbrev pub decreases-requests : goal.decreases-requests
decreases-requests g l = length l.self

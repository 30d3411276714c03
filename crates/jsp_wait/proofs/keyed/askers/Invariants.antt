use Rattle.std.proofs.Common.{◌≡◌, ◌++◌, ◌-◌, ◌^◌, map}
use Rattle.std.specs.Prelude.{filter}
use Rattle.jsp_keyed.specs.Finding.{is_next}
use Rattle.jsp_wait.specs.Waiting.{asker}
use Rattle.jsp_wait.proofs.Least.{number}
use Rattle.jsp_wait.proofs.keyed.askers.Given as goal

abbrev pub invariant-requests : goal.invariant-requests
invariant-requests g l = l.askers.items ++ map asker (filter (is_next number (g.P.Test.is_passed l.test) l.last) l.fn.requests) ≡ map asker (filter (g.P.Test.is_passed l.test) l.fn.requests)

abbrev pub decreases-requests : goal.decreases-requests
decreases-requests g l = 2 ^ 64 - l.last

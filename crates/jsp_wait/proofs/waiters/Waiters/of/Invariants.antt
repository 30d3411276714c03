use Rattle.std.proofs.Common.{◌≡◌, ◌++◌, length, reverse}
use Rattle.jsp_wait.proofs.waiters.Waiters.of.Given as goal

abbrev pub invariant-requests : goal.invariant-requests
invariant-requests l = l.waiters ++ reverse l.requests.items ≡ l.fn.requests

abbrev pub decreases-requests : goal.decreases-requests
decreases-requests l = length l.requests.items

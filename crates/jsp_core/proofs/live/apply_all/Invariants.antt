use Rattle.std.proofs.Common.{◌≡◌}
use Rattle.jsp_core.proofs.live.apply_all.Given as goal

abbrev pub invariant-spaces : goal.invariant-spaces
invariant-spaces l = l.state ≡ l.fn.state

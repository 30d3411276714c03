use Rattle.std.proofs.Common.{◌≡◌}
use Rattle.jsp_house.proofs.ahead.apply_everywhere.Given as goal

abbrev pub invariant-spaces : goal.invariant-spaces
invariant-spaces l = l.image ≡ l.fn.image

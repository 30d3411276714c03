use Rattle.std.proofs.Common.{◌≡◌}
use Rattle.jsp_house.proofs.unquiet.first_to_quiet.Given as goal

abbrev pub invariant-spaces : goal.invariant-spaces
invariant-spaces l = l.image ≡ l.fn.image

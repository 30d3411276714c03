use Rattle.std.proofs.Common.{◌≡◌, map, take}
use Rattle.jsp_state.proofs.spaces.copy_names.Given as goal

abbrev pub invariant-spaces : goal.invariant-spaces
invariant-spaces l = l.names ≡ map (λ p. p.name) (take l.space-index l.spaces)

use Rattle.std.proofs.Common.{◌≡◌, ◌∷◌, take}
use Rattle.jsp_types.proofs.adding.line_from.Given as goal

abbrev pub invariant-loop-name : goal.invariant-loop-name
invariant-loop-name l = l.line ≡ l.fn.name ∷ take l.name-index l.above

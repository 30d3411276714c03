-- An array that has not two items is no pair.
use Rattle.std.proofs.Common.{◌≡◌, List, [], ◌∷◌, length, ◌<◌, ◌≤◌, None, refl, arith}
use Rattle.jsp_wire.specs.declared.tree.Tree.{Tree}
use Rattle.jsp_wire.specs.Tree.{items_view}
use Rattle.jsp_wire.specs.Parts.{two_numbers}

pub too_few : (vs : List Tree) → length vs < 2 → two_numbers (items_view vs) ≡ None
too_few [] few = refl
too_few (v ∷ []) few = refl
too_few (v ∷ w ∷ vs) few = absurd (omega (arith, few))

pub too_many : (vs : List Tree) → 3 ≤ length vs → two_numbers (items_view vs) ≡ None
too_many [] many = refl
too_many (v ∷ []) many = refl
too_many (v ∷ w ∷ []) many = absurd (omega (arith, many))
too_many (v ∷ w ∷ u ∷ vs) many = refl

-- The list of some spaces.
use Rattle.std.specs.Prelude.{ℕ, List, [], ◌∷◌}
use Rattle.jsp_machine.specs.declared.spaces.Places.{Places}
use Rattle.jsp_machine.specs.declared.spaces.Places.TheVariants as places

abbrev pub listed : Places → List ℕ
listed (places.One space) = space ∷ []
listed (places.Several spaces) = spaces.items

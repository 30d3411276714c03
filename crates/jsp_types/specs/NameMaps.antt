-- Maps by name that copies share.
use Rattle.std.specs.Prelude.{◌≡◌, ℕ, if◌then◌else◌, List, Option, Some, option_and_then, bytes_eq, String}
use Rattle.std.specs.declared.sync.Arc.{Arc}
use Rattle.std.specs.Arc.{arc_value}
use Rattle.std.specs.HashMap.{HashMap, get_by_text}

-- what the map, if there is one, has for the name
abbrev pub looked_up : {X Y S Z : Type 0} → Option (Arc (HashMap (String Y) X S) Z) → List ℕ → Option X
looked_up shared name = option_and_then (λ map. get_by_text (arc_value map) name) shared

-- the look-ups after a name is given a value
abbrev pub with_value : {X : Type 0} → (List ℕ → Option X) → List ℕ → X → List ℕ → Option X
with_value lookups name value q = if bytes_eq name q then Some value else lookups q

-- they give the same for each name
abbrev pub AreSame : {X : Type 0} → (List ℕ → Option X) → (List ℕ → Option X) → Type 0
AreSame lookups others = (name : List ℕ) → lookups name ≡ others name

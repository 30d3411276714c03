-- The classes below each class, by name.
use Rattle.std.specs.Prelude.{◌≡◌, ℕ, Bool, true, false, ◌||◌, List, ◌∷◌, Option, bytes_eq}
use Rattle.std.specs.List.{list_any}
use Rattle.std.specs.Option.{option_map_or}
use Rattle.jsp_types.specs.declared.class.Class.{Class}
use Rattle.jsp_types.specs.Classes.{is_sub}

-- the list, if there is one, has the name
abbrev pub is_in : Option (List (List ℕ)) → List ℕ → Bool
is_in names name = option_map_or (list_any (bytes_eq name)) names false

-- each name that stands in a list of the one stands in that list of the other
abbrev pub Keeps : (List ℕ → Option (List (List ℕ))) → (List ℕ → Option (List (List ℕ))) → Type 0
Keeps old new = (d name : List ℕ) → is_in (old d) name ≡ true → is_in (new d) name ≡ true

-- the name stands in the list of each of the others
abbrev pub IsBelow : (List ℕ → Option (List (List ℕ))) → List ℕ → List (List ℕ) → Type 0
IsBelow lists name above = (d : List ℕ) → list_any (bytes_eq d) above ≡ true → is_in (lists d) name ≡ true

-- the first name of a line stands in the list of each of the others
abbrev pub IsNoted : (List ℕ → Option (List (List ℕ))) → List (List ℕ) → Type 0
IsNoted lists line = (name : List ℕ) (above : List (List ℕ)) → line ≡ name ∷ above → IsBelow lists name above

-- each class that has another in its line of descent stands in the list of that one. Others may stand there too
abbrev pub HasDescendants : List Class → (List ℕ → Option (List (List ℕ))) → Type 0
HasDescendants classes lists = (c d : List ℕ) → is_sub classes c d ≡ true → (bytes_eq c d || is_in (lists d) c) ≡ true

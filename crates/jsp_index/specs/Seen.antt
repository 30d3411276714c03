-- The classes that rows have.
use Rattle.std.specs.Prelude.{◌≡◌, ℕ, true, List, [], bytes_eq, nat_eq}
use Rattle.std.specs.List.{AllByRecursion, list_any}
use Rattle.std.specs.Option.{option_map_or}
use Rattle.std.specs.HashMap.{HashMap, get}
use Rattle.jsp_model.specs.declared.state.Row.{Row}

-- the class is among these
abbrev pub IsAmong : List (List ℕ) → List ℕ → Type 0
IsAmong seen class = list_any (λ c. bytes_eq c class) seen ≡ true

module _ {S : Type 0} where
  -- those seen in a space
  abbrev pub seen_in : HashMap ℕ (List (List ℕ)) S → ℕ → List (List ℕ)
  seen_in seen space = option_map_or (λ classes. classes) (get nat_eq seen space) []

  -- the class is among them
  abbrev pub IsSeen : HashMap ℕ (List (List ℕ)) S → ℕ → List ℕ → Type 0
  IsSeen seen space class = IsAmong (seen_in seen space) class

  -- what the one has, the other has
  abbrev pub KeepsSeen : HashMap ℕ (List (List ℕ)) S → HashMap ℕ (List (List ℕ)) S → Type 0
  KeepsSeen old new = (space : ℕ) (class : List ℕ) → IsSeen old space class → IsSeen new space class

  -- the class of each row is seen in its space
  abbrev pub AreSeen : HashMap ℕ (List (List ℕ)) S → List Row → Type 0
  AreSeen seen rows = AllByRecursion (λ row. IsSeen seen row.space row.entry.class) rows

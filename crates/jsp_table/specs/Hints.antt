-- Lists of numbers, by key.
use Rattle.std.specs.Prelude.{ℕ, ◌%◌, Bool, false, List, Option, option_and_then, nat_eq}
use Rattle.std.specs.List.{slice_get}
use Rattle.std.specs.Option.{option_map_or}
use Rattle.std.specs.HashMap.{HashMap, get}
use Rattle.jsp_table.specs.declared.hints.Hints.{Hints}
use Rattle.jsp_table.specs.Numbers.{contains}

-- the list has the number, where there is a list
abbrev pub has_number : Option (List ℕ) → ℕ → Bool
has_number list number = option_map_or (λ ns. contains ns number) list false

module _ {S : Type 0} where
  -- the list of the key, in the map that its remainder names
  abbrev pub list_in : List (HashMap ℕ (List ℕ) S) → ℕ → Option (List ℕ)
  list_in shards key = option_and_then (λ shard. get nat_eq shard key) (slice_get shards (key % 64))

-- the list of the key
abbrev pub list_of : Hints → ℕ → Option (List ℕ)
list_of hints key = list_in hints.shards.items key

-- the list of the key has the number
abbrev pub names : Hints → ℕ → ℕ → Bool
names hints key number = has_number (list_of hints key) number

-- Counts, by key.
use Rattle.std.specs.Prelude.{ℕ, nat_eq, unwrap_or}
use Rattle.std.specs.HashMap.{HashMap, get}
use Rattle.std.specs.Option.{IsSome}

module _ {S : Type 0} where
  -- the count of the key, 0 where it has none
  abbrev pub count_of : HashMap ℕ ℕ S → ℕ → ℕ
  count_of counts key = unwrap_or (get nat_eq counts key) 0

  -- there is a count for the key
  abbrev pub HasCount : HashMap ℕ ℕ S → ℕ → Type 0
  HasCount counts key = IsSome (get nat_eq counts key)

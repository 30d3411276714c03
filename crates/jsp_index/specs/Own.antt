-- A transaction's own rows, and up to where what is open is looked for beside them.
use Rattle.std.specs.Prelude.{◌≡◌, ℕ, nat_le, Bool, true, List, [], Option, unwrap_or}
use Rattle.std.specs.List.{AllByRecursion}
use Rattle.std.specs.Option.{option_map_or}
use Rattle.jsp_model.specs.declared.state.Row.{Row}
use Rattle.jsp_table.specs.Numbers.{contains}
use Rattle.jsp_keyed.specs.Finding.{IsUpTo, IsOneOf}
use Rattle.jsp_index.specs.Finding.{number, is_next}

-- the numbers of its own rows, if there is a list of them
abbrev pub own_numbers : Option (List ℕ) → List ℕ
own_numbers own = unwrap_or own []

-- the row has one of them
abbrev pub is_own : Option (List ℕ) → Row → Bool
is_own own row = contains (own_numbers own) row.number

-- what is kept passes, and is no later than any row of this kind above the number that passes
pub record IsKept (passed kind : Row → Bool) (after : ℕ) (rows : List Row) (kept : Option Row) : Type 0 where
  pub one : IsOneOf number passed rows kept
  pub least : AllByRecursion (λ row. is_next passed after row ≡ true → kind row ≡ true → IsUpTo number kept row.number) rows

-- what passes has one of these numbers
abbrev pub AreAmong : List ℕ → (Row → Bool) → List Row → Type 0
AreAmong numbers passed rows = AllByRecursion (λ row. passed row ≡ true → contains numbers row.number ≡ true) rows

-- the number isn't above the last one, if there is one
abbrev pub is_within : Option ℕ → ℕ → Bool
is_within last n = option_map_or (nat_le n) last true

-- what passes isn't above it
abbrev pub AreWithin : Option ℕ → (Row → Bool) → List Row → Type 0
AreWithin last passed rows = AllByRecursion (λ row. passed row ≡ true → is_within last row.number ≡ true) rows

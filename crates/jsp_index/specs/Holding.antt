-- Rows that transactions wrote, took or read, listed by transaction and space.
use Rattle.std.specs.Prelude.{◌≡◌, ℕ, ◌==◌, Bool, true, false, nat_eq, List, find, Option, option_map, option_and_then}
use Rattle.std.specs.List.{AllByRecursion}
use Rattle.std.specs.Option.{option_map_or}
use Rattle.std.specs.HashMap.{HashMap, get}
use Rattle.jsp_model.specs.declared.state.Row.{Row}
use Rattle.jsp_model.specs.Lookup.{is_caller}
use Rattle.jsp_table.specs.Numbers.{contains}
use Rattle.jsp_index.specs.declared.holding.Holding.{Holding}

-- the numbers that are listed for a space
abbrev pub listed_in : List Holding → ℕ → Option (List ℕ)
listed_in holdings space = option_map (λ (h : Holding). h.numbers) (find (λ (h : Holding). h.space == space) holdings)

-- the list, if there is one, has the number
abbrev pub is_in : Option (List ℕ) → ℕ → Bool
is_in numbers n = option_map_or (λ ns. contains ns n) numbers false

module _ {S : Type 0} where
  -- the numbers that are listed for a transaction in a space
  abbrev pub listed : HashMap ℕ (List Holding) S → ℕ → ℕ → Option (List ℕ)
  listed holders x space = option_and_then (λ hs. listed_in hs space) (get nat_eq holders x)

  -- the number is one of them
  abbrev pub lists : HashMap ℕ (List Holding) S → ℕ → ℕ → ℕ → Bool
  lists holders x space n = is_in (listed holders x space) n

  -- what the one lists, the other lists
  abbrev pub Keeps : HashMap ℕ (List Holding) S → HashMap ℕ (List Holding) S → Type 0
  Keeps old new = (x space n : ℕ) → lists old x space n ≡ true → lists new x space n ≡ true

  -- the row is listed, in its space, for each transaction that wrote, took or read it
  pub record IsHeld (holders : HashMap ℕ (List Holding) S) (row : Row) : Type 0 where
    pub by_writer : (x : ℕ) → is_caller row.writer x ≡ true → lists holders x row.space row.number ≡ true
    pub by_taker : (x : ℕ) → is_caller row.taker x ≡ true → lists holders x row.space row.number ≡ true
    pub by_reader : AllByRecursion (λ x. lists holders x row.space row.number ≡ true) row.readers

  abbrev pub AreHeld : HashMap ℕ (List Holding) S → List Row → Type 0
  AreHeld holders rows = AllByRecursion (IsHeld holders) rows

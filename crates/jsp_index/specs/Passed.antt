-- Rows that no search passes one by one, since a transaction holds them.
use Rattle.std.specs.Prelude.{◌≡◌, ℕ, ◌<◌, ◌≤◌, ◌&&◌, ◌||◌, ◌==◌, Bool, true, List, length, Option, is_none, if◌then◌else◌}
use Rattle.std.specs.List.{AllByRecursion}
use Rattle.std.specs.HashMap.{HashMap}
use Rattle.jsp_model.specs.declared.state.Row.{Row}
use Rattle.jsp_model.specs.Sight.{readable, takeable}
use Rattle.jsp_table.specs.Numbers.{contains}
use Rattle.jsp_table.specs.Finding.{AreNamed}
use Rattle.jsp_index.specs.declared.starts.Unseen.{Unseen}
use Rattle.jsp_index.specs.declared.starts.Unseen.TheVariants.{Nothing, Taken, Hidden, Held}
use Rattle.jsp_index.specs.declared.starts.ListStart.{ListStart}
use Rattle.jsp_index.specs.Starts.{start_at}
use Rattle.jsp_index.specs.Finding.{number}
use Rattle.jsp_index.specs.Keys.{row_keys}

-- no transaction took the row
abbrev pub is_untaken : Row → Bool
is_untaken row = is_none row.taker

-- nor wrote it
abbrev pub is_public : Row → Bool
is_public row = is_none row.writer && is_untaken row

-- nor read it
abbrev pub is_free : Row → Bool
is_free row = length row.readers == 0 && is_public row

-- the row isn't one of those that can't be had
abbrev pub is_open : Unseen → Row → Bool
is_open Nothing row = true
is_open Taken row = is_untaken row
is_open Hidden row = is_public row
is_open Held row = is_free row

-- a request, or a match set, of a transaction or of none may have the row
abbrev pub may_have : Bool → Option ℕ → Row → Bool
may_have takes x row = if takes then takeable x row else readable x row

-- it may have the row, which is in the space
abbrev pub is_had : ℕ → Bool → Option ℕ → Row → Bool
is_had space takes x row = row.space == space && may_have takes x row

-- what passes is had
abbrev pub AreOpen : Unseen → (Row → Bool) → List Row → Type 0
AreOpen unseen passed rows = AllByRecursion (λ row. passed row ≡ true → is_open unseen row ≡ true) rows

-- what passes is open, or one of these
abbrev pub AreOpenOr : Unseen → List ℕ → (Row → Bool) → List Row → Type 0
AreOpenOr unseen own passed rows = AllByRecursion (λ row. passed row ≡ true → (is_open unseen row || contains own row.number) ≡ true) rows

-- the open ones of a kind stand above a number
abbrev pub AreAbove : (Row → Bool) → (Row → Bool) → ℕ → List Row → Type 0
AreAbove kind had start rows = AllByRecursion (λ row. kind row ≡ true → had row ≡ true → start < row.number) rows

-- the row stands above where each of its keys starts
abbrev pub IsAbove : ℕ → (ℕ → ℕ) → Row → Type 0
IsAbove seed start row = (k : ℕ) → contains (row_keys seed row) k ≡ true → start k < row.number

module _ {S : Type 0} where
  -- the had rows stand above where each of their keys starts
  abbrev pub ArePassed : ℕ → HashMap ℕ ListStart S → List Row → Type 0
  ArePassed seed starts rows = (u : Unseen) → AllByRecursion (λ row. is_open u row ≡ true → IsAbove seed (start_at u starts) row) rows

  -- no key starts further on
  abbrev pub AreLower : HashMap ℕ ListStart S → HashMap ℕ ListStart S → Type 0
  AreLower old new = (u : Unseen) (k : ℕ) → start_at u new k ≤ start_at u old k

  -- the row stands above where each of its keys starts, whatever can't be had
  abbrev pub IsOverAll : ℕ → HashMap ℕ ListStart S → Row → Type 0
  IsOverAll seed starts row = (u : Unseen) → IsAbove seed (start_at u starts) row

-- the numbers are those of all rows of a kind, of which the open ones stand above the start
pub record AreListed (kind had : Row → Bool) (numbers : List ℕ) (start : ℕ) (rows : List Row) : Type 0 where
  pub named : AreNamed number kind numbers rows
  pub above : AreAbove kind had start rows

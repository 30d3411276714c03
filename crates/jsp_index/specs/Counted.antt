-- How many rows each space has.
use Rattle.std.specs.Prelude.{◌≡◌, ℕ, ◌==◌, List, filter, length}
use Rattle.std.specs.List.{AllByRecursion}
use Rattle.std.specs.HashMap.{HashMap}
use Rattle.jsp_model.specs.declared.state.Row.{Row}
use Rattle.jsp_table.specs.Counts.{count_of, HasCount}

abbrev pub count_in : ℕ → List Row → ℕ
count_in space rows = length (filter (λ (row : Row). row.space == space) rows)

module _ {S : Type 0} where
  -- each space's count is how many of the rows it has
  abbrev pub AreCounted : HashMap ℕ ℕ S → List Row → Type 0
  AreCounted counts rows = (space : ℕ) → count_of counts space ≡ count_in space rows

  -- there is a count for the space of each row
  abbrev pub HaveRoom : HashMap ℕ ℕ S → List Row → Type 0
  HaveRoom counts rows = AllByRecursion (λ row. HasCount counts row.space) rows

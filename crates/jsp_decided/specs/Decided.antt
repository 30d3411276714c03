-- Rows as they are after what is recorded and not applied.
use Rattle.std.specs.Prelude.{ℕ, ◌==◌, if◌then◌else◌, List, [], ◌∷◌, filter, fold, Option, Some, option_and_then}
use Rattle.jsp_model.specs.declared.state.Row.{Row}
use Rattle.jsp_decided.specs.declared.recorded.Recorded.{Recorded}
use Rattle.jsp_decided.specs.Recording.{space_of, becomes, rows_after}
use Rattle.jsp_decided.specs.declared.decided.DecidedRows.{DecidedRows}

-- what is stored, after all that is recorded
abbrev pub rows_of : DecidedRows → List Row
rows_of rows = rows_after rows.recorded.items rows.stored

-- what becomes of one row
abbrev pub row_after : List Recorded → Row → Option Row
row_after ds row = fold (λ o d. option_and_then (becomes d) o) (Some row) ds

-- what the space hasn't applied
abbrev pub pending_in : List Recorded → ℕ → List Recorded
pending_in ds space = filter (λ d. space_of d == space) ds

-- all but the first of them
abbrev pub without_first : ℕ → List Recorded → List Recorded
without_first space [] = []
without_first space (d ∷ ds) = if space_of d == space then ds else d ∷ without_first space ds

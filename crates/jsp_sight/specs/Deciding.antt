-- Rows after decisions that are made one after another, each in its space.
use Rattle.std.specs.Prelude.{ℕ, ◌==◌, Bool, if◌then◌else◌, List, fold, Option, Some, None}
use Rattle.std.specs.List.{filter_map, list_any}
use Rattle.jsp_model.specs.declared.state.Row.{Row}
use Rattle.jsp_model.specs.Lookup.{is_caller}
use Rattle.jsp_sight.specs.Rows.{settled, undone}
use Rattle.jsp_sight.specs.declared.deciding.Decision.{Decision}

-- what the transaction took goes, and what it wrote is everyone's
abbrev pub committed_row : ℕ → Row → Option Row
committed_row x row = if is_caller row.taker x then None else Some (settled x row)

-- what the transaction wrote goes, and what it took is there again
abbrev pub aborted_row : ℕ → Row → Option Row
aborted_row x row = if is_caller row.writer x then None else Some (undone x row)

-- what becomes of a row
abbrev pub fate : Decision → Row → Option Row
fate d row = if row.space == d.space then (if d.commits then committed_row d.transaction row else aborted_row d.transaction row) else Some row

-- the rows after these decisions, in their order
abbrev pub rows_after : List Decision → List Row → List Row
rows_after ds rows = fold (λ rows d. filter_map (fate d) rows) rows ds

-- a decision is about the space
abbrev pub covers : List Decision → ℕ → Bool
covers ds space = list_any (λ (d : Decision). d.space == space) ds

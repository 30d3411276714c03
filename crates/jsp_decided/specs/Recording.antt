-- What is recorded of spaces, one thing after another, and rows after it.
use Rattle.std.specs.Prelude.{ℕ, ◌==◌, ◌&&◌, Bool, true, false, not, if◌then◌else◌, List, fold, Option, Some, None}
use Rattle.std.specs.List.{filter_map, list_any}
use Rattle.jsp_model.specs.declared.state.Row.{Row}
use Rattle.jsp_sight.specs.Deciding.{fate}
use Rattle.jsp_decided.specs.declared.recorded.Recorded.{Recorded}
use Rattle.jsp_decided.specs.declared.recorded.Recorded.TheVariants.{Decided, Reset}

abbrev pub space_of : Recorded → ℕ
space_of (Decided d) = d.space
space_of (Reset space) = space

-- what becomes of a row
abbrev pub becomes : Recorded → Row → Option Row
becomes (Decided d) row = fate d row
becomes (Reset space) row = if row.space == space then None else Some row

-- the rows after all of these, in their order
abbrev pub rows_after : List Recorded → List Row → List Row
rows_after ds rows = fold (λ rows d. filter_map (becomes d) rows) rows ds

-- one of them is about the space
abbrev pub covers : List Recorded → ℕ → Bool
covers ds space = list_any (λ d. space_of d == space) ds

-- a transaction ended in the space
abbrev pub ends : ℕ → ℕ → Recorded → Bool
ends space x (Decided d) = d.space == space && d.transaction == x
ends space x (Reset _) = false

-- it isn't the end of this transaction
abbrev pub is_of_other : ℕ → Recorded → Bool
is_of_other x (Decided d) = not (d.transaction == x)
is_of_other x (Reset _) = true

-- it is a reset of the space
abbrev pub resets : ℕ → Recorded → Bool
resets space (Decided d) = false
resets space (Reset s) = s == space

-- one of them is
abbrev pub is_cleared : List Recorded → ℕ → Bool
is_cleared ds space = list_any (resets space) ds

-- Who may be given a row on offer.
use Rattle.std.specs.Prelude.{◌≡◌, ℕ, Bool, true, ◌&&◌, ◌||◌, ◌==◌, List, Option, Some, None}
use Rattle.std.specs.List.{list_any}
use Rattle.jsp_types.specs.declared.class.Class.{Class}
use Rattle.jsp_model.specs.declared.state.Row.{Row}
use Rattle.jsp_model.specs.declared.state.Blocked.{Blocked}
use Rattle.jsp_model.specs.Sight.{is_if}
use Rattle.jsp_sight.specs.Rows.{wanted}

-- the request asks for the row, and there is one
abbrev pub IsAsked : List Class → Option Row → Blocked → Type 0
IsAsked classes None b = ⊥
IsAsked classes (Some row) b = wanted classes b row ≡ true

-- whoever may be given a row by its number asks for it
abbrev pub AskForIt : List Class → (ℕ → Option Row) → (ℕ → Blocked → Bool) → Type 0
AskForIt classes row_of is_taker = (n : ℕ) (b : Blocked) → is_taker n b ≡ true → IsAsked classes (row_of n) b

-- it is at the space, and may be given one of the rows
abbrev pub takes_one : (ℕ → Blocked → Bool) → ℕ → List ℕ → Blocked → Bool
takes_one is_taker space numbers b = b.space == space && list_any (λ n. is_taker n b) numbers

-- it waits for a conflict to end, has this number, and isn't held up
abbrev pub freed_numbered : (Blocked → Bool) → ℕ → Blocked → Bool
freed_numbered is_freed n b = n == b.number && (is_if b.form && is_freed b)

-- it waits for a conflict to end and isn't held up, and its number is one of these, where some are given
abbrev pub freed_among : (Blocked → Bool) → Option (List ℕ) → Blocked → Bool
freed_among is_freed None b = is_if b.form && is_freed b
freed_among is_freed (Some ns) b = list_any (λ n. freed_numbered is_freed n b) ns

-- it is at the space, and may be given one of the rows, or passes a test
abbrev pub waits_no_more : (ℕ → Blocked → Bool) → (Blocked → Bool) → ℕ → List ℕ → Blocked → Bool
waits_no_more is_taker freed space numbers b = b.space == space && (list_any (λ n. is_taker n b) numbers || freed b)

-- it waits for a conflict to end, and asks for the row
abbrev pub waits_for : List Class → Row → Blocked → Bool
waits_for classes row b = is_if b.form && wanted classes b row

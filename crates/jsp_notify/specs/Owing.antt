-- What registrations are owed of rows that are written or published.
use Rattle.std.specs.Prelude.{ℕ, ◌-◌, if◌then◌else◌, Bool, ◌&&◌, ◌==◌, nat_le, nat_lt, List, [], ◌∷◌, ◌++◌, map, filter, length, take, Option, Some, None}
use Rattle.jsp_types.specs.declared.class.Class.{Class}
use Rattle.jsp_types.specs.Matching.{matches}
use Rattle.jsp_model.specs.declared.state.Row.{Row}
use Rattle.jsp_model.specs.declared.state.Registration.{Registration}
use Rattle.jsp_model.specs.Sight.{is_free}

-- the registration is told what the caller wrote: under a transaction what was written under it, or else
-- each; it is in the row's space, and the template matches the row
abbrev pub is_news : List Class → Option ℕ → Registration → Row → Bool
is_news classes caller r row = is_free r.transaction caller && (r.space == row.space && matches classes r.template row.entry)

-- the numbers of those rows
abbrev pub numbers_of_news : List Class → Option ℕ → List Row → Registration → List ℕ
numbers_of_news classes caller rows r = map (λ row. row.number) (filter (is_news classes caller r) rows)

abbrev pub owed : List Class → Option ℕ → List Row → Registration → Registration
owed classes caller rows r = record r { owed = r.owed ++ numbers_of_news classes caller rows r }

-- its number is from the first on, and below the second, if there is one
abbrev pub is_within : ℕ → Option ℕ → Registration → Bool
is_within from None r = nat_le from r.number
is_within from (Some below) r = nat_le from r.number && nat_lt r.number below

-- those are owed the row
abbrev pub owed_within : List Class → Option ℕ → Row → ℕ → Option ℕ → Registration → Registration
owed_within classes caller row from below r = if is_within from below r then owed classes caller (row ∷ []) r else r

-- without as many as it was owed last
abbrev pub forgiven : List Class → Option ℕ → List Row → Registration → Registration
forgiven classes caller rows r = record r { owed = take (length r.owed - length (filter (is_news classes caller r) rows)) r.owed }

-- and that is taken back
abbrev pub forgiven_within : List Class → Option ℕ → Row → ℕ → Option ℕ → Registration → Registration
forgiven_within classes caller row from below r = if is_within from below r then forgiven classes caller (row ∷ []) r else r

-- one row more
abbrev pub owed_one : ℕ → Registration → Registration
owed_one n r = record r { owed = r.owed ++ n ∷ [] }

-- one row less, the last
abbrev pub owed_less : Registration → Registration
owed_less r = record r { owed = take (length r.owed - 1) r.owed }

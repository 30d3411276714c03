-- The first row that passes a test, found in parts.
use Rattle.std.specs.Prelude.{ℕ, Bool, ◌&&◌, ◌==◌, List, find, Option, bytes_eq}
use Rattle.std.specs.List.{list_any}
use Rattle.jsp_types.specs.declared.class.Class.{Class}
use Rattle.jsp_types.specs.declared.entry.Entry.{Entry}
use Rattle.jsp_types.specs.declared.entry.Template.{Template}
use Rattle.jsp_types.specs.declared.entry.Template.TheVariants.{Like}
use Rattle.jsp_types.specs.Matching.{matches}
use Rattle.jsp_model.specs.declared.state.Row.{Row}
use Rattle.jsp_keyed.specs.Finding.{is_next as is_next_by, IsLeast as IsLeastBy, lesser as lesser_by}

abbrev pub number : Row → ℕ
number row = row.number

-- the row is above the number and passes
abbrev pub is_next : (Row → Bool) → ℕ → Row → Bool
is_next passed after row = is_next_by number passed after row

-- the row is in the space, and one of the templates matches it
abbrev pub is_asked : List Class → ℕ → List Template → Row → Bool
is_asked classes space templates row = row.space == space && list_any (λ t. matches classes t row.entry) templates

-- the row is in the space, and the template matches it
abbrev pub is_like : List Class → ℕ → Template → Row → Bool
is_like classes space template row = row.space == space && matches classes template row.entry

-- the row is in the space, the template of these values matches it, and it has one of the classes
abbrev pub is_like_of : List Class → ℕ → Entry → List (List ℕ) → Row → Bool
is_like_of classes space like names row = is_like classes space (Like like) row && list_any (λ c. bytes_eq c row.entry.class) names

abbrev pub row_numbered : ℕ → List Row → Option Row
row_numbered n rows = find (λ (row : Row). row.number == n) rows

-- what was found passes, and is no later than any row of this kind that passes
abbrev pub IsLeast : (Row → Bool) → (Row → Bool) → List Row → Option Row → Type 0
IsLeast passed kind rows found = IsLeastBy number passed kind rows found

-- the one with the lesser number
abbrev pub lesser : Option Row → Option Row → Option Row
lesser a b = lesser_by number a b

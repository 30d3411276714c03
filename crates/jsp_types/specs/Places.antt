-- Classes found by the places that are noted for their names.
use Rattle.std.specs.Prelude.{◌≡◌, ℕ, if◌then◌else◌, List, Option, Some, None, option_and_then, find, bytes_eq}
use Rattle.std.specs.List.{slice_get}
use Rattle.jsp_types.specs.declared.known.Known.{Known}

-- it, where it has the name
abbrev pub if_named : List ℕ → Known → Option Known
if_named name k = if bytes_eq k.class.name name then Some k else None

-- what stands at the place that is noted for the name, where it has the name
abbrev pub found_at : (List ℕ → Option ℕ) → List Known → List ℕ → Option Known
found_at places known name = option_and_then (λ i. option_and_then (if_named name) (slice_get known i)) (places name)

-- for each name that is the first of the name. Other places may be noted beside
abbrev pub FindsAll : (List ℕ → Option ℕ) → List Known → Type 0
FindsAll places known = (name : List ℕ) → found_at places known name ≡ find (λ k. bytes_eq k.class.name name) known

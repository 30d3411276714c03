-- What counts as refused.
use Rattle.std.specs.Prelude.{ℕ, Bool, true, false, ◌||◌, Option, Some, None, is_some, option_and_then, codes}
use Rattle.serde_json.specs.Data.{Data, Items, no_items, item}
use Rattle.serde_json.specs.Find.{get, as_array, as_null}

-- it has the key `fault`
abbrev pub has_fault : Data → Bool
has_fault answer = is_some (get (codes "fault") answer)

abbrev pub any_has_fault : Items → Bool
any_has_fault no_items = false
any_has_fault (item d ds) = has_fault d || any_has_fault ds

-- a list in which one has it
abbrev pub list_has_fault : Option Items → Bool
list_has_fault None = false
list_has_fault (Some ds) = any_has_fault ds

-- An answer counts as refused where it has the key `fault`, or answers with a list in which one has it, as the answer to
-- a batch of leases may.
abbrev pub counts_as_refused : Data → Bool
counts_as_refused answer = has_fault answer || list_has_fault (option_and_then as_array (get (codes "ok") answer))

-- An answer to a search, a read or a take, that found no entry: null. It counts too where an entry must be found.
abbrev pub found_nothing : Data → Bool
found_nothing answer = is_some (option_and_then as_null (get (codes "ok") answer))

-- what the shell is told: 0 only where nothing was refused
abbrev pub status_of : Bool → ℕ
status_of true = 1
status_of false = 0

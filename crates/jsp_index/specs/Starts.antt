-- Up to where the rows that have a key are held by transactions.
use Rattle.std.specs.Prelude.{ℕ, nat_eq}
use Rattle.std.specs.Option.{option_map_or}
use Rattle.std.specs.HashMap.{HashMap, get}
use Rattle.jsp_index.specs.declared.starts.Unseen.{Unseen}
use Rattle.jsp_index.specs.declared.starts.Unseen.TheVariants.{Nothing, Taken, Hidden, Held}
use Rattle.jsp_index.specs.declared.starts.ListStart.{ListStart}

abbrev pub number_at : Unseen → ListStart → ℕ
number_at Nothing start = 0
number_at Taken start = start.taken
number_at Hidden start = start.hidden
number_at Held start = start.held

-- where a key starts
abbrev pub start_at : {S : Type 0} → Unseen → HashMap ℕ ListStart S → ℕ → ℕ
start_at u starts key = option_map_or (number_at u) (get nat_eq starts key) 0

-- The marks of a row that are left after what is recorded.
use Rattle.std.specs.Prelude.{ℕ, Bool, ◌==◌, ◌&&◌, ◌||◌, if◌then◌else◌, List, Option, Some, None, is_none, option_and_then}
use Rattle.std.specs.List.{list_any, list_all}
use Rattle.jsp_model.specs.declared.state.Row.{Row}
use Rattle.jsp_model.specs.Lookup.{is_caller}
use Rattle.jsp_model.specs.Sight.{is_free}
use Rattle.jsp_decided.specs.declared.recorded.Recorded.{Recorded}
use Rattle.jsp_decided.specs.declared.recorded.Recorded.TheVariants.{Decided, Reset}
use Rattle.jsp_decided.specs.Recording.{ends}
use Rattle.jsp_decided.specs.declared.after.Left.{Left}

abbrev pub marks_of : Row → Left
marks_of row = record { writer = row.writer; taker = row.taker }

abbrev pub but : Option ℕ → ℕ → Option ℕ
but mark x = if is_caller mark x then None else mark

-- of a row of its space, unless it goes
abbrev pub left_by : Recorded → Left → Option Left
left_by (Reset _) left = None
left_by (Decided d) left =
    if d.commits then (if is_caller left.taker d.transaction then None else Some (record { writer = but left.writer d.transaction; taker = left.taker }))
    else (if is_caller left.writer d.transaction then None else Some (record { writer = left.writer; taker = but left.taker d.transaction }))

-- the transaction ended in the space
abbrev pub is_over : List Recorded → ℕ → ℕ → Bool
is_over ds space x = list_any (ends space x) ds

-- none but the caller is left of the row's readers
abbrev pub reads_alone : List Recorded → Row → Option ℕ → Bool
reads_alone ds row caller = list_all (λ y. is_caller caller y || is_over ds row.space y) row.readers

abbrev pub is_readable : Left → Option ℕ → Bool
is_readable left caller = is_none left.taker && is_free caller left.writer

-- the number of a row that passes
abbrev pub number_passed : (Row → Bool) → Option Row → Option ℕ
number_passed p place = option_and_then (λ r. if p r then Some r.number else None) place

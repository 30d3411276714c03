-- What registrations are to be told, before it is told.
use Rattle.std.specs.Prelude.{ℕ, ◌+◌, ◌-◌, ◌==◌, if◌then◌else◌, Bool, not, ◌&&◌, List, ◌++◌, drop, take, flat_map, length, nat_le, nat_lt, sum_by, [], Option}
use Rattle.std.specs.List.{list_all}
use Rattle.jsp_table.specs.Counts.{count_of}
use Rattle.jsp_model.specs.declared.state.Row.{Row}
use Rattle.jsp_model.specs.declared.state.Registration.{Registration}
use Rattle.jsp_notify.specs.declared.news.News.{News}
use Rattle.jsp_notify.specs.Owing.{is_within, numbers_of_news, owed}

-- So many of the rows has the registration been told of: those that are told to all of its space, and the next one where
-- its number is below the one that was reached.
abbrev pub told_to : News → Registration → ℕ
told_to n r = count_of n.told r.space + (if nat_lt r.number (count_of n.reached r.space) then 1 else 0)

-- the rows that it hasn't been told of
abbrev pub untold : News → Registration → List Row
untold n r = drop (told_to n r) n.rows

-- those of them that are news to the registration, by their numbers
abbrev pub numbers_untold : List News → Registration → List ℕ
numbers_untold news r = flat_map (λ n. numbers_of_news n.classes n.caller (untold n r) r) news

-- the registration once it has heard all
abbrev pub hearing : List News → Registration → Registration
hearing news r = record r { owed = r.owed ++ numbers_untold news r }

-- all that is in the space has heard all of it
abbrev pub is_told : ℕ → News → Bool
is_told space n = nat_le (length n.rows) (count_of n.told space)

abbrev pub all_told : List News → ℕ → Bool
all_told news space = list_all (is_told space) news

-- it is owed nothing that it has heard of, and hasn't heard all
abbrev pub is_behind : List News → Registration → Bool
is_behind news r = length r.owed == 0 && not (all_told news r.space)

-- so many rows are left for the space
abbrev pub left_in : ℕ → News → ℕ
left_in space n = length n.rows - count_of n.told space

abbrev pub still_to_tell : List News → ℕ → ℕ
still_to_tell news space = sum_by (left_in space) news

-- the registrations of the space are owed these rows, those whose numbers are within
abbrev pub owed_in : News → List Row → ℕ → ℕ → Option ℕ → Registration → Registration
owed_in n rows space from below r = if r.space == space then (if is_within from below r then owed n.classes n.caller rows r else r) else r

-- those that weren't told it yet are owed the next row, up to a number, if there is one
abbrev pub told_next : News → ℕ → Option ℕ → Registration → Registration
told_next n space below r = owed_in n (take 1 (drop (count_of n.told space) n.rows)) space (count_of n.reached space) below r

-- but for what it is owed
abbrev pub without_owed : Registration → Registration
without_owed r = record r { owed = [] }

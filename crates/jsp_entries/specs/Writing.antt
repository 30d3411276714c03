-- Why a write isn't granted, and the rows that it adds.
use Rattle.std.specs.Prelude.{ℕ, ◌+◌, nat_lt, List, [], ◌∷◌, ◌++◌, map, length, Option, is_none}
use Rattle.jsp_types.specs.declared.entry.Raw.{Raw}
use Rattle.jsp_lease.specs.Granted.{granted}
use Rattle.jsp_reply.specs.declared.refusal.Refusal.TheVariants.{BadLease, SpaceFull, UsedUp}
use Rattle.jsp_model.specs.declared.state.State.{State}
use Rattle.jsp_model.specs.declared.state.Row.{Row}
use Rattle.jsp_model.specs.Requests.{WriteRequest, place_of}
use Rattle.jsp_model.specs.Refusals.{Tests, rows_in, is_used_up}
use Rattle.jsp_model.specs.Changes.{new_row}
use Rattle.jsp_notify.specs.Owing.{owed}
use Rattle.jsp_model.specs.declared.limits.TheConstants.{MOST_ROWS}

abbrev pub granting_tests : State → WriteRequest → Tests
granting_tests st w =
    (is_none (granted w.lease), BadLease)
    ∷ (nat_lt MOST_ROWS (rows_in st (place_of st w.space) + length w.entries), SpaceFull)
    ∷ (is_used_up st (length w.entries), UsedUp)
    ∷ []

-- the row that the write adds under this number
abbrev pub row_numbered : ℕ → State → WriteRequest → Raw → Row
row_numbered n st w raw = new_row (record st { next_number = n }) w raw

-- these rows are there, registrations are owed them, and their numbers are drawn
abbrev pub with_new_rows : State → Option ℕ → List Row → State
with_new_rows st caller rows =
    record st {
      rows = st.rows ++ rows;
      registrations = map (owed st.classes caller rows) st.registrations;
      next_number = st.next_number + length rows;
    }

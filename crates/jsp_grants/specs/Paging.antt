-- Match sets that are opened, and the pages that they show.
use Rattle.std.specs.Prelude.{ℕ, ◌+◌, ◌==◌, [], ◌∷◌, ◌++◌, Option}
use Rattle.jsp_types.specs.Matching.{template_of}
use Rattle.jsp_lease.specs.Granted.{ms_of}
use Rattle.jsp_wire.specs.declared.ask.Contents.{Contents}
use Rattle.jsp_model.specs.declared.state.State.{State}
use Rattle.jsp_model.specs.declared.state.MatchSet.{MatchSet}
use Rattle.jsp_model.specs.Lookup.{update}
use Rattle.jsp_model.specs.Requests.{caller_of, place_of}
use Rattle.jsp_wait.specs.Sets.{to_cursor}

-- the set that a request opens
abbrev pub opened : State → ℕ → Contents → MatchSet
opened st s q =
    record {
      number = st.next_number;
      session = s;
      space = place_of st q.space;
      template = template_of st.classes q.template;
      transaction = caller_of q.txn;
      end = st.time + ms_of q.lease;
      cursor = 0;
    }

-- it is there, and its number is drawn
abbrev pub with_set : State → MatchSet → State
with_set st m = record st { sets = st.sets ++ m ∷ []; next_number = st.next_number + 1 }

-- the cursor of the set of this number goes there, if it goes anywhere
abbrev pub with_cursor : State → ℕ → Option ℕ → State
with_cursor st n last = record st { sets = update (λ m. m.number == n) (to_cursor last) st.sets }

-- Registrations that are made.
use Rattle.std.specs.Prelude.{ℕ, ◌+◌, [], ◌∷◌, ◌++◌}
use Rattle.jsp_types.specs.Matching.{template_of}
use Rattle.jsp_lease.specs.Granted.{ms_of}
use Rattle.jsp_wire.specs.declared.ask.Notify.{Notify}
use Rattle.jsp_model.specs.declared.state.State.{State}
use Rattle.jsp_model.specs.declared.state.Registration.{Registration}
use Rattle.jsp_model.specs.Requests.{caller_of, place_of}

-- the registration that a request makes
abbrev pub registered : State → ℕ → Notify → Registration
registered st s q =
    record {
      number = st.next_number;
      space = place_of st q.space;
      template = template_of st.classes q.template;
      transaction = caller_of q.txn;
      session = s;
      handback = q.handback;
      end = st.time + ms_of q.lease;
      sequence = 0;
      owed = [];
    }

-- it is there, and its number is drawn
abbrev pub with_registration : State → Registration → State
with_registration st r = record st { registrations = st.registrations ++ r ∷ []; next_number = st.next_number + 1 }

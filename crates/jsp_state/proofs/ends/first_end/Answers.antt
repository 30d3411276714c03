use Rattle.std.proofs.Common.{ap}
use Rattle.jsp_model.specs.declared.state.State.{State}
use Rattle.jsp_state.proofs.Soonest.{first_is_seen}
use Rattle.jsp_state.proofs.ends.first_end.Goals as goal

pub returns : goal.returns
returns c =
    first_is_seen c.args.state.now c.args.time _ _ _ _ _ _ _ _ _ (ap (λ (st : State). st.sets) c.state.view_is) (ap (λ (st : State). st.blocked) c.state.view_is) (ap (λ (st : State). st.registrations) c.state.view_is) (ap (λ (st : State). st.rows) c.state.view_is)
    c.due-2.ensures (rw c.due.ensures at c.soonest-first.ensures) (rw c.first_active.ensures at c.soonest-first-2.ensures)
    (rw c.due-3.ensures at c.soonest-first-3.ensures)
    (rw c.due-4.ensures at c.soonest.ensures)

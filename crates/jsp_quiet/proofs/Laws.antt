-- The laws, gathered.
use Rattle.std.proofs.Common.{◌≡◌, refl, ◌≤◌, [], ◌∷◌, true, false, not, ◌&&◌, length, Some, ◌==◌, eq-eqb, arith}
use Rattle.std.specs.Option.{option_map_or}
use Rattle.std.proofs.lemmas.Bool.{and_from, and_parts, not-true}
use Rattle.jsp_model.specs.declared.state.State.{State}
use Rattle.jsp_model.specs.declared.step.Step.TheVariants as step
use Rattle.jsp_lease.specs.declared.item.Item.{Item}
use Rattle.jsp_lease.specs.Due.{is_item, rank_number}
use Rattle.jsp_model.specs.Quiet.{are_quiet}
use Rattle.jsp_model.specs.Due.{due}
use Rattle.jsp_model.specs.Touches.{touches}
use Rattle.jsp_model.specs.Steps.{is_legal, next}
use Rattle.jsp_quiet.specs.Quieting.{owed_events, left_to_say, can_make_due}
use Rattle.jsp_quiet.specs.Laws.{SteadyStates, NothingBecomesDueAlong, UsesUp, Ends, LawsOfProgress}
use Rattle.jsp_quiet.proofs.Steady.{steady_empty, steady_step, steady_run}
use Rattle.jsp_quiet.proofs.Falls.{grant_answers, empty_answers, tell_tells, EndsOne, due_ends, quieting_ends, free_ends}
use Rattle.jsp_quiet.proofs.Progress.{can_grant, can_empty, can_tell, can_quiet}
use Rattle.jsp_quiet.proofs.Due.{nothing_becomes_due}
use Rattle.jsp_model.specs.Runs.{is_run}
use Rattle.jsp_laws.proofs.Made.{and_both}
use Rattle.std.specs.List.{list_all}

pub steady_states : SteadyStates
steady_states = record { first = steady_empty; step = steady_step; run = steady_run }

left_falls : (st : State) (i : Item) → EndsOne st (next st (step.Due i)) → left_to_say (next st (step.Due i)) ≤ left_to_say st
left_falls st i k =
    let b : length (next st (step.Due i)).blocked ≤ length st.blocked = k.blocked in
    let o : owed_events (next st (step.Due i)) ≤ owed_events st = k.owed in
    omega (arith, b, o)

pub uses_up : UsesUp
uses_up = record {
  grant_blocked = λ st n ns e. (grant_answers st n ns e).blocked;
  grant_registrations = λ st n ns e. (grant_answers st n ns e).registrations;
  empty_blocked = λ st n e. (empty_answers st n e).blocked;
  empty_registrations = λ st n e. (empty_answers st n e).registrations;
  tell_owed = λ st n e. (tell_tells st n e).owed;
  tell_blocked = λ st n e. (tell_tells st n e).blocked;
  due_living = λ st i e. (due_ends st i e).living;
  due_left = λ st i e. left_falls st i (due_ends st i e);
}

pub ends : Ends
ends = record { quieting = quieting_ends; free = free_ends }

itself : (i : Item) → is_item i i ≡ true
itself i =
    and_from (i.end == i.end && rank_number i.rank == rank_number i.rank) (i.number == i.number)
    (and_from (i.end == i.end) (rank_number i.rank == rank_number i.rank) (eq-eqb i.end i.end refl) (eq-eqb (rank_number i.rank) (rank_number i.rank) refl))
    (eq-eqb i.number i.number refl)

can_end : (st : State) (i : Item) → due st ≡ Some i → are_quiet st (touches st (step.Due i)) ≡ true → is_legal st (step.Due i) ≡ true
unfolding is_legal
can_end st i d q = and_from (option_map_or (is_item i) (due st) false) (are_quiet st (touches st (step.Due i))) (rw d (itself i)) q

pub goes_on : LawsOfProgress
goes_on = record {
  grant = λ st b s h m e. can_grant st b s.rising h m e;
  empty = λ st b s h e k. can_empty st b s.rising h e k;
  tell = λ st r s h e. can_tell st r s.rising h e;
  quiet = λ st p s m e. can_quiet st p s.rising m e;
  end = can_end;
}

pub nothing_due_along : NothingBecomesDueAlong
nothing_due_along st [] s run all d = d
nothing_due_along st (act ∷ steps) s run all d =
    let legal : (is_legal st act ≡ true) × (is_run (next st act) steps ≡ true) = and_both (is_legal st act) (is_run (next st act) steps) run in
    let parts : (not (can_make_due act) ≡ true) × (list_all (λ s. not (can_make_due s)) steps ≡ true) = and_parts (not (can_make_due act)) (list_all (λ s. not (can_make_due s)) steps) all in
    nothing_due_along (next st act) steps (steady_step st act legal.0 s) legal.1 parts.1 (nothing_becomes_due st act s (not-true (can_make_due act) parts.0) d)

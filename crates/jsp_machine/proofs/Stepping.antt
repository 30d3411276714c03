-- Whoever posts what a step says and makes its change has made the step, and keeps the limits.
use Rattle.std.proofs.Common.{◌≡◌, ℕ, ◌≤◌, true, false, nat_le, List, length, Result, Ok, Err, refl, ap, sym, ◌∙◌, subst}
use Rattle.std.specs.Prelude.{fold, filter, OnOk, OnErr}
use Rattle.std.proofs.lemmas.Bool.{and_parts, and_from, le-leb, leb-true}
use Rattle.jsp_model.specs.declared.state.State.{State}
use Rattle.jsp_model.specs.declared.state.Outbox.{Outbox}
use Rattle.jsp_model.specs.declared.step.Step.{Step}
use Rattle.jsp_model.specs.declared.step.Step.TheVariants as step
use Rattle.jsp_model.specs.Lookup.{is_open}
use Rattle.jsp_model.specs.Changes.{close}
use Rattle.jsp_model.specs.Answers.{Saying, all_said, said}
use Rattle.jsp_model.specs.Outboxes.{post, outbox_of}
use Rattle.jsp_model.specs.Steps.{is_legal, change, next}
use Rattle.jsp_model.specs.Limits.{IsWithinLimits}
use Rattle.jsp_model.proofs.Outboxes.{is_hand_out}
use Rattle.jsp_model.proofs.Apart.{next_posted, next_silent, next_handed}
use Rattle.jsp_quiet.specs.Steady.{IsSteady}
use Rattle.jsp_quiet.proofs.Steady.{steady_step}
use Rattle.jsp_limits.proofs.Outboxes.{outboxes_after}
use Rattle.jsp_limits.proofs.Steps.{limits_stay}
use Rattle.jsp_state.specs.Outboxes.{after_handing}

-- ---- posting

pub limits_posted : (st : State) (sayings : List Saying) (boxes : List Outbox) → IsWithinLimits st → boxes ≡ fold post st.outboxes sayings → IsWithinLimits (record st { outboxes = boxes })
limits_posted st sayings boxes h is = record {
  classes = h.classes;
  spaces = h.spaces;
  sessions = h.sessions;
  time = h.time;
  next_number = h.next_number;
  rows = h.rows;
  registrations = h.registrations;
  sequences = h.sequences;
  blocked = h.blocked;
  transactions = h.transactions;
  sets = h.sets;
  commits = h.commits;
  waiting = h.waiting;
  numbers = h.numbers;
  outboxes = rw is (outboxes_after (step.Clock 0) sayings st.outboxes h.outboxes);
}

pub step_made : (st : State) (x : Step) (sayings : List Saying) (boxes : List Outbox) (new : State) → is_hand_out x ≡ false → sayings ≡ said st x → boxes ≡ fold post st.outboxes sayings → new ≡ change (record st { outboxes = boxes }) x → new ≡ next st x
step_made st x sayings boxes new other says posted made =
    made ∙ ap (λ w. change (record st { outboxes = w }) x) (posted ∙ ap (fold post st.outboxes) says) ∙ next_posted st x other

-- ---- closing and handing out

pub shut_is : (st : State) (s : ℕ) → close st s ≡ next st (step.Shut s)
unfolding said
shut_is st s = next_silent st (step.Shut s) refl refl

pub limits_shut : (st : State) (s : ℕ) → IsWithinLimits st → is_open st s ≡ true → IsWithinLimits (close st s)
unfolding is_legal
limits_shut st s h is = subst IsWithinLimits (sym (shut_is st s)) (limits_stay st (step.Shut s) h is refl)

pub limits_handed : (st : State) (s n : ℕ) → IsWithinLimits st → 1 ≤ n → n ≤ length (outbox_of st s) → IsWithinLimits (after_handing st s n)
unfolding is_legal
limits_handed st s n h some there =
    subst IsWithinLimits (next_handed st s n)
    (limits_stay st (step.HandOut s n) h (and_from (nat_le 1 n) (nat_le n (length (outbox_of st s))) (le-leb 1 n some) (le-leb n (length (outbox_of st s)) there)) refl)

pub hand_out_parts : (st : State) (s n : ℕ) → is_legal st (step.HandOut s n) ≡ true → (1 ≤ n) × (n ≤ length (outbox_of st s))
unfolding is_legal
hand_out_parts st s n h =
    let parts = and_parts (nat_le 1 n) (nat_le n (length (outbox_of st s))) h in
    (leb-true 1 n parts.0, leb-true n (length (outbox_of st s)) parts.1)

-- ---- a steady state

pub steady_shut : (st : State) (s : ℕ) → is_open st s ≡ true → IsSteady st → IsSteady (close st s)
unfolding is_legal
steady_shut st s is h = subst IsSteady (sym (shut_is st s)) (steady_step st (step.Shut s) is h)

pub steady_handed : (st : State) (s n : ℕ) → 1 ≤ n → n ≤ length (outbox_of st s) → IsSteady st → IsSteady (after_handing st s n)
unfolding is_legal
steady_handed st s n some there h =
    subst IsSteady (next_handed st s n)
    (steady_step st (step.HandOut s n) (and_from (nat_le 1 n) (nat_le n (length (outbox_of st s))) (le-leb 1 n some) (le-leb n (length (outbox_of st s)) there)) h)

-- ---- what is heard

pub heard_is : (st : State) (x : Step) (all heard : List Saying) → all ≡ all_said st x → heard ≡ filter (λ a. is_open st a.0) all → heard ≡ said st x
unfolding said
heard_is st x all heard says hears = hears ∙ ap (filter (λ a. is_open st a.0)) says

-- ---- whole or not at all

pub steady_either : {T E : Type 0} (r : Result T E) (old now new : State) → (IsSteady old → IsSteady now) → OnOk r (new ≡ now) → OnErr r (new ≡ old) → IsSteady old → IsSteady new
steady_either (Ok t) old now new stays ok err h = subst IsSteady (sym ok) (stays h)
steady_either (Err e) old now new stays ok err h = subst IsSteady (sym err) h

pub limits_either : {T E : Type 0} (r : Result T E) (old now new : State) → IsWithinLimits old → IsWithinLimits now → OnOk r (new ≡ now) → OnErr r (new ≡ old) → IsWithinLimits new
limits_either (Ok t) old now new before after ok err = subst IsWithinLimits (sym ok) after
limits_either (Err e) old now new before after ok err = subst IsWithinLimits (sym err) before

-- Sessions are numbered from 1, so nothing is ever said to the number 0.
use Rattle.std.proofs.Common.{◌≡◌, ℕ, ◌<◌, Bool, true, false, List, [], ◌∷◌, length, eqb, refl, ap, sym, ◌∙◌, arith}
use Rattle.std.specs.Prelude.{filter, nat_lt}
use Rattle.std.proofs.lemmas.Bool.{and_parts, and_from, lt-ltb, eqb-true, eqb-false}
use Rattle.jsp_model.specs.declared.state.State.{State}
use Rattle.jsp_model.specs.declared.state.Outbox.{Outbox}
use Rattle.jsp_model.specs.declared.step.Step.{Step}
use Rattle.jsp_model.specs.Lookup.{empty, is_open}
use Rattle.jsp_model.specs.Answers.{Saying, said, all_said}
use Rattle.jsp_model.specs.Limits.{are_outboxes}
use Rattle.jsp_model.specs.Steps.{is_legal, next}
use Rattle.jsp_model.specs.Runs.{is_run, IsRun, said_to}
use Rattle.jsp_model.proofs.Joining.{to_session, said_to-step}
use Rattle.jsp_model.proofs.Outboxes.{answers_in, are_above, rising_of, above_all}
use Rattle.jsp_model.proofs.Sessions.{IsPast, rises_run}

-- ---- a session that is past

kept_none : (s : ℕ) (st : State) (a : Saying) (b c : Bool) → is_open st s ≡ false → is_open st a.0 ≡ b → eqb a.0 s ≡ c → (sayings : List Saying)
    → to_session s (filter (λ (x : Saying). is_open st x.0) sayings) ≡ [] → to_session s (filter (λ (x : Saying). is_open st x.0) (a ∷ sayings)) ≡ []
kept_none s st a false c closed is same sayings rest = rw is rest
kept_none s st a true false closed is same sayings rest = rw is (rw same rest)
kept_none s st a true true closed is same sayings rest =
    let mine : is_open st s ≡ true = ap (is_open st) (sym (eqb-true a.0 s same)) ∙ is in
    cc (mine, closed)

none_kept : (s : ℕ) (st : State) (sayings : List Saying) → is_open st s ≡ false → to_session s (filter (λ (x : Saying). is_open st x.0) sayings) ≡ []
none_kept s st [] closed = refl
none_kept s st (a ∷ sayings) closed = kept_none s st a (is_open st a.0) (eqb a.0 s) closed refl refl sayings (none_kept s st sayings closed)

step_silent : (s : ℕ) (st : State) (x : Step) → is_open st s ≡ false → to_session s (said st x) ≡ []
unfolding said
step_silent s st x closed = none_kept s st (all_said st x) closed

-- nothing is said to it
pub said_past : (s : ℕ) (st : State) (xs : List Step) → IsRun st xs → IsPast s st → said_to s st xs ≡ []
said_past s st [] run past = refl
said_past s st (x ∷ xs) run past =
    let parts = and_parts (is_legal st x) (is_run (next st x) xs) run in
    let one : is_run st (x ∷ []) ≡ true = and_from (is_legal st x) true parts.0 refl in
    said_to-step s st x xs ∙ rw (step_silent s st x past.closed) (said_past s (next st x) xs parts.1 ((rises_run st (x ∷ []) one).past s past))

-- ---- the number 0

pub none_at_first : (names : List (List ℕ)) → IsPast 0 (empty names)
none_at_first names = record { closed = refl; low = omega arith }

above_none_at : (b : Outbox) (boxes : List Outbox) (c : Bool) → eqb b.session 0 ≡ c → are_outboxes (b ∷ boxes) ≡ true → answers_in (b ∷ boxes) 0 ≡ [] → are_above 0 (b ∷ boxes) ≡ true
above_none_at b boxes true is h none =
    let full = (rising_of b boxes h).full in
    let mine : b.answers ≡ [] = rw is at none in
    absurd (omega (arith, full, ap length mine))
above_none_at b boxes false is h none =
    let apart = eqb-false b.session 0 is in
    let lt : 0 < b.session = omega (arith, apart) in
    and_from (nat_lt 0 b.session) (are_above 0 boxes) (lt-ltb 0 b.session lt) (above_all 0 b.session boxes (omega arith) (rising_of b boxes h).above)

-- no box is empty, so there is none for it
pub above_none : (boxes : List Outbox) → are_outboxes boxes ≡ true → answers_in boxes 0 ≡ [] → are_above 0 boxes ≡ true
above_none [] h none = refl
above_none (b ∷ boxes) h none = above_none_at b boxes (eqb b.session 0) refl h none

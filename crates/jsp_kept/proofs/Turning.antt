-- Settle turns, in one era or in several.
use Rattle.std.proofs.Common.{◌≡◌, ℕ, List, [], ◌∷◌, Bool, true, false, Option, Some, None, Result, Ok, Err, refl, sym, ◌∙◌, ap, subst}
use Rattle.std.specs.Prelude.{IfOk, is_none, if◌then◌else◌, option_to_list}
use Rattle.jsp_model.specs.declared.state.State.{State}
use Rattle.jsp_model.specs.declared.step.Step.{Step}
use Rattle.jsp_model.specs.declared.house.Stopped.{Stopped}
use Rattle.jsp_model.specs.declared.house.Settled.{Settled}
use Rattle.jsp_model.specs.declared.house.Settled.TheVariants as settled
use Rattle.jsp_model.specs.declared.house.Why.TheVariants as why
use Rattle.jsp_model.specs.Settling.{settle_step, first_unquiet, AllQuiet}
use Rattle.jsp_model.specs.House.{AnswersTurn, AnswersOf, Covers, Leaves, settled_by, was_done}
use Rattle.std.specs.Prelude.{not}
use Rattle.std.proofs.lemmas.Bool.{and_parts, not-true}
use Rattle.std.proofs.Common.{true≢false}
use Rattle.jsp_model.specs.Quiet.{is_quiet, are_quiet}
use Rattle.jsp_model.specs.Settling.{places}
use Rattle.jsp_model.specs.House.{touched}
use Rattle.jsp_laws.proofs.Lists.{each_has, each_by_all, found_has}
use Rattle.jsp_quiet.specs.Steady.{IsSteady}
use Rattle.jsp_quiet.proofs.Covering.{all_parts, covered}
use Rattle.jsp_quiet.proofs.Unasked.{LeavesVotes, free_run_leaves, same_turn}
use Rattle.jsp_quiet.proofs.Turns.{none_unquiet, still_quiet}
use Rattle.jsp_kept.specs.Calls.{outcome}
use Rattle.jsp_kept.specs.Eras.{GrowsAsAsked, Prepares, no_memory}
use Rattle.jsp_kept.specs.History.{History}
use Rattle.jsp_kept.proofs.Growing.{performs_then, performs_on}

pub outcome_leaves : (r : Result Settled Stopped) (new : State) (spaces owed : List ℕ) → Leaves r new spaces owed → Leaves (outcome r) new spaces owed
outcome_leaves (Ok s) new spaces owed h = h
outcome_leaves (Err e) new spaces owed h = h

-- ---- what steps that nobody asked for leave as it is

pub prepares_leaves : (h k : History) → Prepares h k → LeavesVotes h.state k.state
prepares_leaves h k p = subst (LeavesVotes h.state) (sym p.grows.state) (free_run_leaves h.state p.steps p.grows.run p.own_steps)

pub prepares_turn : (h k : History) → Prepares h k → settle_step k.state ≡ settle_step h.state
prepares_turn h k p = same_turn h.state k.state (prepares_leaves h k p)

-- ---- a vote or a decision

own_same : (b : Bool) (x y : Option Step) → x ≡ y → (if b then option_to_list x else []) ≡ (if b then option_to_list y else [])
own_same b x y is = ap (λ (o : Option Step). if b then option_to_list o else []) is

pub votes_then : (h k l : History) (r : Result Settled Stopped) → Prepares h k → GrowsAsAsked k l (settled_by k.state r) (outcome r) → GrowsAsAsked h l (settled_by h.state r) (outcome r)
votes_then h k l r p q = performs_then h k l (settled_by h.state r) (outcome r) p (subst (λ own. GrowsAsAsked k l own (outcome r)) (own_same (was_done r) (settle_step k.state) (settle_step h.state) (prepares_turn h k p)) q)

pub undone_prepares : (h k : History) (e : Stopped) → e.done ≡ false → GrowsAsAsked h k (settled_by h.state (Err e)) (Err e) → Prepares h k
undone_prepares h k e undone p = record { steps = p.steps; grows = p.grows; own_steps = p.own_steps ∙ rw undone refl; covers = p.leaves }

pub answers_then : (h k : History) (new : State) (s : Settled) → Prepares h k → (settle_step h.state ≡ None → ⊥) → AnswersTurn k.state new s → AnswersTurn h.state new s
answers_then h k new settled.Voted p votes a = (a.0, a.1, sym (prepares_turn h k p) ∙ a.2)
answers_then h k new settled.Decided p votes a = (a.0, a.1, sym (prepares_turn h k p) ∙ a.2)
answers_then h k new settled.Quieted p votes a = absurd (votes (sym (prepares_turn h k p) ∙ a.0))
answers_then h k new settled.Idle p votes a = absurd (votes (sym (prepares_turn h k p) ∙ a.0))

pub settled_done : (st : State) (e : Stopped) (s : Settled) → e.done ≡ true → settled_by st (Err e) ≡ settled_by st (Ok s)
settled_done st e s done = rw done refl

pub settled_unfinished : (st : State) (e : Stopped) → e.done ≡ true → settled_by st (Err e) ≡ settled_by st (Err (no_memory true))
settled_unfinished st e done = rw done refl

-- ---- a turn where none votes

none_own : (b : Bool) (o : Option Step) → o ≡ None → (if b then option_to_list o else []) ≡ []
none_own true o none = rw none refl
none_own false o none = refl

pub none_settled : (st : State) (r : Result Settled Stopped) → settle_step st ≡ None → settled_by st r ≡ []
none_settled st r none = none_own (was_done r) (settle_step st) none

clashes : (st : State) (q : ℕ) → first_unquiet st ≡ Some q → AllQuiet st → ⊥
clashes st q found all =
    let here = found_has (λ p. not (is_quiet st p)) (places st) q found in
    let quiet : is_quiet st q ≡ true = each_has (λ p. is_quiet st p ≡ true) (places st) q (each_by_all (is_quiet st) (places st) all) here.0 in
    true≢false (sym quiet ∙ not-true (is_quiet st q) here.1)

-- the first space that wasn't quiet was owed, so it is quiet now
quieted : (h l : History) (owed : List ℕ) (q : ℕ) → IsSteady h.state → settle_step h.state ≡ None → Covers owed (option_to_list (first_unquiet h.state)) → are_quiet l.state owed ≡ true → GrowsAsAsked h l [] (Ok tt)
    → first_unquiet l.state ≡ Some q → AnswersTurn h.state l.state settled.Quieted
quieted h l owed q steady none owes quiet all found = at (first_unquiet h.state) refl owes
  where
    at : (o : Option ℕ) → first_unquiet h.state ≡ o → Covers owed (option_to_list o) → AnswersTurn h.state l.state settled.Quieted
    at (Some p) e c = (none, p, e, (and_parts (is_quiet l.state p) true (covered (is_quiet l.state) owed (p ∷ []) c quiet)).0)
    at None e c =
        let here : are_quiet l.state (touched h.state all.steps) ≡ true = (all_parts (is_quiet l.state) (touched h.state all.steps) h.debt all.leaves.1).0 in
        absurd (clashes l.state q found (still_quiet h.state l.state all.steps steady all.grows.run (sym all.grows.state) all.own_steps here (none_unquiet h.state e)))

quiet_at : (h l : History) (owed : List ℕ) (s : Settled) → IsSteady h.state → settle_step h.state ≡ None → Covers owed (option_to_list (first_unquiet h.state)) → are_quiet l.state owed ≡ true → GrowsAsAsked h l [] (Ok tt)
    → s ≡ (if is_none (first_unquiet l.state) then settled.Idle else settled.Quieted) → AnswersTurn h.state l.state s
quiet_at h l owed s steady none owes quiet all is = at (first_unquiet l.state) refl is
  where
    at : (o : Option ℕ) → first_unquiet l.state ≡ o → s ≡ (if is_none o then settled.Idle else settled.Quieted) → AnswersTurn h.state l.state s
    at None e k = subst (AnswersTurn h.state l.state) (sym k) (none, none_unquiet l.state e)
    at (Some q) e k = subst (AnswersTurn h.state l.state) (sym k) (quieted h l owed q steady none owes quiet all e)

pub quiet_answers : (h k l : History) (e : Stopped) (r : Result Settled Stopped) → IsSteady h.state → settle_step h.state ≡ None → GrowsAsAsked h k (settled_by h.state (Err e)) (Err e)
    → AnswersOf h.state k.state k.debt (Err e) → GrowsAsAsked k l [] (outcome r) → IfOk r (λ s. e.why ≡ why.EraFull) → IfOk r (λ s. s ≡ (if is_none (first_unquiet l.state) then settled.Idle else settled.Quieted))
    → IfOk r (AnswersTurn h.state l.state)
quiet_answers h k l e (Err x) steady none first owes rest full is = tt
quiet_answers h k l e (Ok s) steady none first owes rest full is =
    let free : GrowsAsAsked h k [] (Err e) = subst (λ own. GrowsAsAsked h k own (Err e)) (none_settled h.state (Err e) none) first in
    quiet_at h l k.debt s steady none (owes full none) (all_parts (is_quiet l.state) (touched k.state rest.steps) k.debt rest.leaves.1).1 (performs_on h k l [] e (Ok tt) free rest) is

pub quiet_performs : (h k l : History) (e : Stopped) (r : Result Settled Stopped) → settle_step h.state ≡ None → GrowsAsAsked h k (settled_by h.state (Err e)) (Err e) → GrowsAsAsked k l [] (outcome r)
    → GrowsAsAsked h l (settled_by h.state r) (outcome r)
quiet_performs h k l e r none first rest =
    performs_on h k l (settled_by h.state r) e (outcome r) (subst (λ own. GrowsAsAsked h k own (Err e)) (none_settled h.state (Err e) none ∙ sym (none_settled h.state r none)) first) rest

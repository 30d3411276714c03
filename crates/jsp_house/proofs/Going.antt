-- Steps that nobody asked for, one after another, and what they leave owed.
use Rattle.std.proofs.Common.{◌≡◌, refl, ap, sym, ◌∙◌, subst, ℕ, ◌+◌, ◌<◌, List, [], ◌∷◌, ◌++◌, true, Ok, Err, inl, inr, ◌==◌}
use Rattle.std.specs.Prelude.{Option, None, option_map}
use Rattle.std.proofs.lemmas.Bool.{or_right, eq-eqb}
use Rattle.jsp_model.specs.declared.state.State.{State}
use Rattle.jsp_model.specs.declared.step.Step.{Step}
use Rattle.jsp_model.specs.declared.house.Stopped.{Stopped}
use Rattle.jsp_model.specs.Lookup.{contains}
use Rattle.jsp_model.specs.Quiet.{is_quiet}
use Rattle.jsp_model.specs.Touches.{touches}
use Rattle.jsp_model.specs.Steps.{is_legal, next}
use Rattle.jsp_model.specs.Runs.{state_after}
use Rattle.jsp_model.specs.House.{Covers, OwesOnce, comes_in_turn, Goes, Makes, Finishes, is_unasked, touched}
use Rattle.jsp_model.proofs.Joining.{own_of-append, Makes-none, Makes-then}
use Rattle.jsp_laws.proofs.Lists.{Has}
use Rattle.jsp_quiet.specs.Quieting.{left_to_say, living}
use Rattle.jsp_quiet.proofs.Covering.{all_both, all_parts, covered, covers_more, touched-append}
use Rattle.jsp_house.specs.Owing.{IsDone}
use Rattle.jsp_quiet.proofs.Lists.{all_has}
use Rattle.jsp_house.proofs.Order.{covers_itself, turn_after, turn_one}

-- ---- one step after another

pub makes_one : (old new : State) (before after : List Step) (x : Step) → is_legal old x ≡ true → new ≡ next old x → after ≡ before ++ x ∷ [] → Makes old new before after (x ∷ [])
makes_one old new before after x legal made log = record { log = log; run = rw legal refl; view = sym made }

pub goes_start : (st : State) (owed : List ℕ) (log : List Step) → Goes st st owed owed log log
goes_start st owed log = record { steps = []; makes = Makes-none st log; own = refl; covers = covers_itself owed; turn = refl; once = λ h. h }

-- nothing was made, and more is owed
pub goes_none : (old st new : State) (owed mid left : List ℕ) (before log after : List Step) → Goes old st owed mid before log → Covers left mid → OwesOnce mid left → new ≡ st → after ≡ log → Goes old new owed left before after
goes_none old st new owed mid left before log after g c o same log_same = record {
  steps = g.steps;
  makes = subst (λ (w : State). Makes old w before after g.steps) (sym same) (subst (λ (w : List Step). Makes old st before w g.steps) (sym log_same) g.makes);
  own = g.own;
  covers = covers_more mid left (touched old g.steps ++ owed) c g.covers;
  turn = g.turn;
  once = λ h. o (g.once h);
}

-- one more
pub goes_more : (old st new : State) (owed mid left : List ℕ) (before log after : List Step) (x : Step) → Goes old st owed mid before log → is_unasked x ≡ true → is_legal st x ≡ true → comes_in_turn st mid x ≡ true → new ≡ next st x → after ≡ log ++ x ∷ []
    → Covers left mid → Covers left (touches st x) → OwesOnce mid left → Goes old new owed left before after
goes_more old st new owed mid left before log after x g free legal turn made entered c d o = record {
  steps = g.steps ++ x ∷ [];
  makes = Makes-then old st new before log after g.steps (x ∷ []) g.makes (makes_one st new log after x legal made entered);
  own = own_of-append g.steps (x ∷ []) ∙ rw (g.own, free) refl;
  covers = (
      let parts = all_parts (contains left) (touched old g.steps) owed (covers_more mid left (touched old g.steps ++ owed) c g.covers) in
      let here : touched (state_after old g.steps) (x ∷ []) ≡ touches st x ++ [] = ap (λ (w : State). touched w (x ∷ [])) g.makes.view in
      let new_ones : Covers left (touches st x ++ []) = all_both (contains left) (touches st x) [] d refl in
      let all : Covers left (touched old (g.steps ++ x ∷ [])) = subst (λ w. Covers left w) (sym (touched-append old g.steps (x ∷ []) ∙ ap (λ w. touched old g.steps ++ w) here)) (all_both (contains left) (touched old g.steps) (touches st x ++ []) parts.0 new_ones) in
      all_both (contains left) (touched old (g.steps ++ x ∷ [])) owed all parts.1);
  turn = turn_after g.steps (x ∷ []) old st owed mid g.covers g.turn g.makes.view (turn_one x st mid turn);
  once = λ h. o (g.once h);
}

-- ---- what is left

-- nothing: all that was owed is quiet
pub finishes_all : (old new : State) (owed debt left : List ℕ) (before after : List Step) → Goes old new owed debt before after → IsDone new debt None → left ≡ [] → Finishes old new owed left before after (Ok tt)
finishes_all old new owed debt left before after g d none = record {
  steps = g.steps;
  makes = g.makes;
  own = g.own;
  leaves = (d.nothing_due, covered (is_quiet new) debt (touched old g.steps ++ owed) g.covers d.owed, none);
  turn = g.turn;
  once = λ h. rw none refl;
}

-- or the call was stopped
pub finishes_some : (old new : State) (owed left : List ℕ) (before after : List Step) (e : Stopped) → Goes old new owed left before after → Finishes old new owed left before after (Err e)
finishes_some old new owed left before after e g = record { steps = g.steps; makes = g.makes; own = g.own; leaves = g.covers; turn = g.turn; once = g.once }

-- ---- what is owed grows

pub covers_pushed : (owed : List ℕ) (p : ℕ) → Covers (owed ++ p ∷ []) owed
covers_pushed owed p = all_has (contains (owed ++ p ∷ [])) owed (λ q k. left owed q k)
  where
    left : (ns : List ℕ) (n : ℕ) → Has ns n → contains (ns ++ p ∷ []) n ≡ true
    left [] n h = absurd h
    left (m ∷ ns) n (inl e) = let w : (m == n) ≡ true = eq-eqb m n e in rw w refl
    left (m ∷ ns) n (inr h) = or_right (m == n) (contains (ns ++ p ∷ []) n) (left ns n h)

-- ---- an end comes nearer

pub falls_to : (st new : State) (x : Step) → new ≡ next st x → left_to_say (next st x) + living (next st x) < left_to_say st + living st → left_to_say new + living new < left_to_say st + living st
falls_to st new x made h = subst (λ (s : State). left_to_say s + living s < left_to_say st + living st) (sym made) h

-- ---- where nothing is left, no step is made

pub some_undone : {A : Type 0} (f : A → Step) (x : Option A) (old st : State) (owed debt : List ℕ) (n m : ℕ) → (IsDone old owed (option_map f x) → (st ≡ old) × (debt ≡ owed) × (m ≡ n))
    → (IsDone st debt (option_map f x) → ⊥) → IsDone old owed (option_map f x) → ⊥
some_undone f x old st owed debt n m same undone d =
    let k = same d in undone (rw (k.0, k.1) d)

-- nothing was made, since memory was wanting
pub finishes_none : (st : State) (owed : List ℕ) (log : List Step) (e : Stopped) → Finishes st st owed owed log log (Err e)
finishes_none st owed log e = finishes_some st st owed owed log log e (goes_start st owed log)

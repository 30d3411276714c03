-- Opening a session.
use Rattle.std.proofs.Common.{◌≡◌, refl, ap, sym, ◌∙◌, subst, ℕ, List, [], ◌∷◌, ◌++◌, Bool, true, false, ◌&&◌, Result, Ok, Err}
use Rattle.std.specs.Prelude.{None, IfErr}
use Rattle.std.proofs.lemmas.Bool.{and_parts, and_from}
use Rattle.jsp_model.specs.declared.state.State.{State}
use Rattle.jsp_model.specs.declared.step.Step.{Step}
use Rattle.jsp_model.specs.declared.step.Step.TheVariants as step
use Rattle.jsp_model.specs.declared.house.Input.{Input}
use Rattle.jsp_model.specs.declared.house.Input.TheVariants as input
use Rattle.jsp_model.specs.declared.house.Stopped.{Stopped}
use Rattle.jsp_model.specs.Answers.{said}
use Rattle.jsp_model.specs.Due.{due}
use Rattle.jsp_model.specs.Quiet.{is_quiet, are_quiet}
use Rattle.jsp_model.specs.Touches.{touches}
use Rattle.jsp_model.specs.Steps.{is_legal, next}
use Rattle.jsp_model.specs.House.{Goes, Acts, OpensNone, accepts, touched}
use Rattle.jsp_house.specs.Owing.{IsDone}
use Rattle.jsp_house.proofs.Going.{makes_one}

-- ---- the step

pub open_legal : (st : State) (s : ℕ) → accepts st (input.Open s) ≡ true → is_legal st (step.Open s) ≡ true
unfolding is_legal
open_legal st s h = h

due_open : (st : State) (s : ℕ) → due (next st (step.Open s)) ≡ due st
unfolding due next said
due_open st s = refl

quiet_open : (st : State) (s p : ℕ) → is_quiet (next st (step.Open s)) p ≡ is_quiet st p
unfolding is_quiet next said
quiet_open st s p = refl

touches_open : (st : State) (s : ℕ) → touches st (step.Open s) ≡ []
unfolding touches
touches_open st s = refl

all_open : (st : State) (s : ℕ) (ps : List ℕ) → are_quiet st ps ≡ true → are_quiet (next st (step.Open s)) ps ≡ true
all_open st s [] h = refl
all_open st s (p ∷ ps) h =
    let parts = and_parts (is_quiet st p) (are_quiet st ps) h in
    and_from (is_quiet (next st (step.Open s)) p) (are_quiet (next st (step.Open s)) ps) (quiet_open st s p ∙ parts.0) (all_open st s ps parts.1)

-- ---- the call

and_false : (b : Bool) → (b && false) ≡ false
and_false true = refl
and_false false = refl

-- it was stopped
pub opens_stopped : (old new : State) (owed left : List ℕ) (before after : List Step) (x : Input) (e : Stopped) → e.done ≡ false → Goes old new owed left before after → Acts old new owed left before after x (Err e)
opens_stopped old new owed left before after x e not_done g = record {
  steps = g.steps;
  makes = g.makes;
  own = g.own ∙ sym (rw (not_done, and_false (accepts old x)) refl);
  leaves = g.covers;
  turn = g.turn;
  once = g.once;
}

pub opens : (old new : State) (owed left : List ℕ) (before after : List Step) (s : ℕ) → IsDone old owed None → accepts old (input.Open s) ≡ true
    → new ≡ next old (step.Open s) → after ≡ before ++ step.Open s ∷ [] → left ≡ [] → Acts old new owed left before after (input.Open s) (Ok tt)
opens old new owed left before after s d may made entered none =
    let here : touched old (step.Open s ∷ []) ≡ [] = ap (λ w. w ++ []) (touches_open old s) in
    let all : are_quiet old (touched old (step.Open s ∷ []) ++ owed) ≡ true = ap (λ w. are_quiet old (w ++ owed)) here ∙ d.owed in
    record {
      steps = step.Open s ∷ [];
      makes = makes_one old new before after (step.Open s) (open_legal old s may) made entered;
      own = sym (rw may refl);
      leaves = (
        ap due made ∙ due_open old s ∙ d.nothing_due,
        subst (λ (w : State). are_quiet w (touched old (step.Open s ∷ []) ++ owed) ≡ true) (sym made) (all_open old s (touched old (step.Open s ∷ []) ++ owed) all),
        none,
      );
      turn = refl;
      once = λ h. rw none refl;
    }

pub opens_none : (s : ℕ) (x : Input) (r : Result Unit Stopped) → x ≡ input.Open s → IfErr r (λ e. e.done ≡ false) → OpensNone x r
opens_none s x (Ok u) is h = rw is tt
opens_none s x (Err e) is h = rw is h

-- it was stopped before its own step
pub unmade_opens_none : (x : Input) (e : Stopped) → e.done ≡ false → OpensNone {A = Unit} x (Err e)
unmade_opens_none (input.Open s) e h = h
unmade_opens_none (input.Clock t) e h = tt
unmade_opens_none (input.Ask s a) e h = tt
unmade_opens_none (input.Fault s id r) e h = tt

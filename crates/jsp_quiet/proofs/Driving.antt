-- An act of a house keeps its state steady, and none of its steps decides.
use Rattle.std.proofs.Common.{◌≡◌, refl, sym, ◌∙◌, subst, ℕ, List, [], ◌∷◌, Bool, true, false, not, cond, ◌&&◌, true≢false}
use Rattle.std.specs.Prelude.{Result, map, filter}
use Rattle.std.specs.List.{list_all}
use Rattle.std.proofs.lemmas.Bool.{and_parts}
use Rattle.jsp_model.specs.declared.state.State.{State}
use Rattle.jsp_model.specs.declared.step.Step.{Step}
use Rattle.jsp_model.specs.declared.step.Step.TheVariants as step
use Rattle.jsp_model.specs.declared.house.Input.{Input}
use Rattle.jsp_model.specs.declared.house.Input.TheVariants as input
use Rattle.jsp_model.specs.declared.house.Stopped.{Stopped}
use Rattle.jsp_model.specs.House.{is_unasked, bare, own_of, step_of, Acts}
use Rattle.jsp_quiet.specs.Steady.{IsSteady}
use Rattle.jsp_quiet.specs.Quieting.{decides}
use Rattle.jsp_quiet.proofs.Steady.{steady_run}

-- ---- acts

-- no step of an act decides
own_decides : (act : Step) → decides act ≡ true → (is_unasked act ≡ false) × (decides (bare act) ≡ true)
own_decides (step.Decide x c) e = (refl, refl)
own_decides (step.Open s) e = absurd (cc)
own_decides (step.Shut s) e = absurd (cc)
own_decides (step.Clock t) e = absurd (cc)
own_decides (step.Ask s a ns) e = absurd (cc)
own_decides (step.Fault s id why) e = absurd (cc)
own_decides (step.Grant n ns) e = absurd (cc)
own_decides (step.Empty n) e = absurd (cc)
own_decides (step.Tell n) e = absurd (cc)
own_decides (step.Due item) e = absurd (cc)
own_decides (step.Vote x space) e = absurd (cc)
own_decides (step.HandOut s n) e = absurd (cc)

pub undecided : (steps : List Step) → list_all (λ s. not (decides s)) (own_of steps) ≡ true → list_all (λ s. not (decides s)) steps ≡ true
undecided [] e = refl
undecided (act ∷ steps) e = go (decides act) refl (is_unasked act) refl e (undecided steps)
  where
    go : (d : Bool) → decides act ≡ d → (f : Bool) → is_unasked act ≡ f → list_all (λ s. not (decides s)) (map bare (cond (not f) (act ∷ filter (λ x. not (is_unasked x)) steps) (filter (λ x. not (is_unasked x)) steps))) ≡ true
        → (list_all (λ s. not (decides s)) (own_of steps) ≡ true → list_all (λ s. not (decides s)) steps ≡ true) → (not d && list_all (λ s. not (decides s)) steps) ≡ true
    go true k true l q ih = let w : is_unasked act ≡ false = (own_decides act k).0 in absurd (true≢false (sym l ∙ w))
    go true k false l q ih = let w : decides (bare act) ≡ true = (own_decides act k).1 in absurd (cc (rw w at q))
    go false k true l q ih = ih q
    go false k false l q ih = ih (and_parts (not (decides (bare act))) (list_all (λ s. not (decides s)) (own_of steps)) q).1

pub asked_undecided : (x : Input) → decides (step_of x) ≡ false
asked_undecided (input.Open s) = refl
asked_undecided (input.Clock t) = refl
asked_undecided (input.Ask s asked) = refl
asked_undecided (input.Fault s id refusal) = refl

pub acts_steady : (old new : State) (owed left : List ℕ) (before after : List Step) (x : Input) (result : Result Unit Stopped) → IsSteady old → Acts old new owed left before after x result → IsSteady new
acts_steady old new owed left before after x result h a = subst IsSteady a.makes.view (steady_run old a.steps a.makes.run h)

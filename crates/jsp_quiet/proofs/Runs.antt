-- What no step of a run stirs is quiet at its end, as it was at its start.
use Rattle.std.proofs.Common.{◌≡◌, refl, sym, subst, ℕ, List, [], ◌∷◌, Bool, true, false, not}
use Rattle.std.specs.List.{list_all}
use Rattle.std.proofs.lemmas.Bool.{and_parts, not-true}
use Rattle.jsp_model.specs.declared.state.State.{State}
use Rattle.jsp_model.specs.declared.step.Step.{Step}
use Rattle.jsp_model.specs.declared.step.Step.TheVariants as step
use Rattle.jsp_model.specs.Lookup.{contains}
use Rattle.jsp_model.specs.Quiet.{is_quiet, are_quiet}
use Rattle.jsp_model.specs.Touches.{touches}
use Rattle.jsp_model.specs.Steps.{is_legal, next}
use Rattle.jsp_model.specs.Runs.{is_run, state_after}
use Rattle.jsp_model.specs.House.{touched}
use Rattle.jsp_laws.proofs.Lists.{each_numbers}
use Rattle.jsp_laws.proofs.Made.{and_both}
use Rattle.jsp_quiet.specs.Steady.{IsSteady}
use Rattle.jsp_quiet.specs.Quieting.{stirs, stirred, decides}
use Rattle.jsp_quiet.proofs.Leases.{contains_neither}
use Rattle.jsp_quiet.proofs.Stays.{quiet_step}
use Rattle.jsp_quiet.proofs.Steady.{steady_step}

pub quiet_stays : (st : State) (act : Step) (p : ℕ) → IsSteady st → is_legal st act ≡ true → contains (stirs st act) p ≡ false → is_quiet st p ≡ true → is_quiet (next st act) p ≡ true
quiet_stays st act p h e n q = quiet_step p st act e h.sound h.rising h.placed n q

pub quiet_run : (st : State) (steps : List Step) (p : ℕ) → IsSteady st → is_run st steps ≡ true → contains (stirred st steps) p ≡ false → is_quiet st p ≡ true → is_quiet (state_after st steps) p ≡ true
quiet_run st [] p h run n q = q
quiet_run st (act ∷ steps) p h run n q =
    let both : (is_legal st act ≡ true) × (is_run (next st act) steps ≡ true) = and_both (is_legal st act) (is_run (next st act) steps) run in
    let parts : (contains (stirs st act) p ≡ false) × (contains (stirred (next st act) steps) p ≡ false) = contains_neither (stirs st act) (stirred (next st act) steps) p n in
    quiet_run (next st act) steps p (steady_step st act both.0 h) both.1 parts.1 (quiet_stays st act p h both.0 parts.0 q)

-- ---- a run without decisions

stirs_touches : (st : State) (act : Step) → decides act ≡ false → stirs st act ≡ touches st act
stirs_touches st (step.Decide x c) e = absurd (cc)
stirs_touches st (step.Open s) e = refl
stirs_touches st (step.Shut s) e = refl
stirs_touches st (step.Clock t) e = refl
stirs_touches st (step.Ask s a ns) e = refl
stirs_touches st (step.Fault s id why) e = refl
stirs_touches st (step.Grant n ns) e = refl
stirs_touches st (step.Empty n) e = refl
stirs_touches st (step.Tell n) e = refl
stirs_touches st (step.Due item) e = refl
stirs_touches st (step.Vote x space) e = refl
stirs_touches st (step.HandOut s n) e = refl

stirred_touched : (st : State) (steps : List Step) → list_all (λ s. not (decides s)) steps ≡ true → stirred st steps ≡ touched st steps
stirred_touched st [] e = refl
stirred_touched st (act ∷ steps) e =
    let parts : (not (decides act) ≡ true) × (list_all (λ s. not (decides s)) steps ≡ true) = and_parts (not (decides act)) (list_all (λ s. not (decides s)) steps) e in
    rw (stirs_touches st act (not-true (decides act) parts.0), stirred_touched (next st act) steps parts.1) refl

-- a space passes at the end if it was quiet, where all that is touched passes and quiet spaces do
pub passes_run : (test : ℕ → Bool) (st : State) (steps : List Step) (p : ℕ) → IsSteady st → is_run st steps ≡ true → list_all (λ s. not (decides s)) steps ≡ true
    → ((q : ℕ) → is_quiet (state_after st steps) q ≡ true → test q ≡ true) → list_all test (touched st steps) ≡ true → is_quiet st p ≡ true → test p ≡ true
passes_run test st steps p h run none quiet all q = go (contains (touched st steps) p) refl
  where
    go : (b : Bool) → contains (touched st steps) p ≡ b → test p ≡ true
    go true e = each_numbers test (touched st steps) p all e
    go false e = quiet p (quiet_run st steps p h run (subst (λ ps. contains ps p ≡ false) (sym (stirred_touched st steps none)) e) q)

-- all that is touched is quiet at the end: then so is all that was quiet before
pub quiet_act : (st : State) (steps : List Step) (p : ℕ) → IsSteady st → is_run st steps ≡ true → list_all (λ s. not (decides s)) steps ≡ true
    → are_quiet (state_after st steps) (touched st steps) ≡ true → is_quiet st p ≡ true → is_quiet (state_after st steps) p ≡ true
quiet_act st steps p h run none all q = passes_run (is_quiet (state_after st steps)) st steps p h run none (λ q e. e) all q

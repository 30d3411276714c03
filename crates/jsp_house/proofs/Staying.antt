-- A call leaves the state steady.
use Rattle.std.proofs.Common.{◌≡◌, sym, subst, List, Result, Ok, Err}
use Rattle.std.specs.Prelude.{IfOk, OnErr, ◌≡◌}
use Rattle.jsp_model.specs.declared.state.State.{State}
use Rattle.jsp_model.specs.declared.step.Step.{Step}
use Rattle.jsp_model.specs.House.{Makes}
use Rattle.jsp_quiet.specs.Steady.{IsSteady}
use Rattle.jsp_quiet.proofs.Steady.{steady_run}

pub makes_steady : (old new : State) (before after steps : List Step) → Makes old new before after steps → IsSteady old → IsSteady new
makes_steady old new before after steps m h = subst IsSteady m.view (steady_run old steps m.run h)

-- or it changed nothing
pub stays_steady : {A E : Type 0} (old new : State) (before after : List Step) (steps : A → List Step) (r : Result A E) → IfOk r (λ v. Makes old new before after (steps v)) → OnErr r ((new ≡ old) × (after ≡ before)) → IsSteady old → IsSteady new
stays_steady old new before after steps (Ok v) ok err h = makes_steady old new before after (steps v) ok h
stays_steady old new before after steps (Err e) ok err h = subst IsSteady (sym err.0) h

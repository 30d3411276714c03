-- What is left to do.
use Rattle.std.specs.Prelude.{◌≡◌, ℕ, List, [], Option, None, IsTrue}
use Rattle.std.specs.Option.{option_map_or}
use Rattle.jsp_model.specs.declared.state.State.{State}
use Rattle.jsp_model.specs.declared.step.Step.{Step}
use Rattle.jsp_model.specs.Due.{due}
use Rattle.jsp_model.specs.Quiet.{are_quiet}
use Rattle.jsp_model.specs.Touches.{touches}

-- Nothing is due, and what is owed and what the step to come touches is quiet.
pub record IsDone (st : State) (spaces : List ℕ) (x : Option Step) : Type 0 where
  pub nothing_due : due st ≡ None
  pub owed : IsTrue (are_quiet st spaces)
  pub to_come : IsTrue (are_quiet st (option_map_or (touches st) x []))

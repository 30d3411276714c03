-- What is compared at the end of a history.
use Rattle.std.specs.Prelude.{◌≡◌, List, length, filter}
use Rattle.jsp_model.specs.declared.state.State.{State}
use Rattle.jsp_model.specs.declared.step.Step.{Step}
use Rattle.jsp_model.specs.Answers.{Saying}
use Rattle.jsp_closing.specs.declared.closed.LineReport.{LineReport}
use Rattle.jsp_closing.specs.Leaving.{AllAsk}
use Rattle.jsp_closing.specs.Writing.{AreWritten}
use Rattle.jsp_closing.specs.Closing.{IsAtRest, opens}

-- the lines are those of the steps, of the state after them and of what they say
pub record AreRight (steps : List Step) (reports : List LineReport) (after : State) (said : List Saying) : Type 0 where
  pub rest : IsAtRest after
  pub count : after.last_session ≡ length reports
  pub asks : AllAsk steps after reports
  pub writes : AreWritten reports said
  pub opened : length (filter opens steps) ≡ length reports

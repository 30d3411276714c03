-- How a history ends, once its lines have ended.
use Rattle.std.specs.Prelude.{◌≡◌, ℕ, zero, suc, List}
use Rattle.jsp_model.specs.declared.step.Step.{Step}
use Rattle.jsp_kept.specs.History.{History}
use Rattle.jsp_kept.specs.Eras.{Grows}
use Rattle.jsp_drive.specs.declared.era.Era.{Era}
use Rattle.jsp_closing.specs.declared.closed.Closed.{Closed}
use Rattle.jsp_closing.specs.declared.closed.LineReport.{LineReport}
use Rattle.jsp_closing.specs.Closing.{IsOf}

-- the steps of one call stand between the two
pub record GoesTo (h k : History) : Type 0 where
  pub made : List Step
  pub grows : Grows h k made

-- it went on in so many calls, each of which sealed an era only where that was full
abbrev pub GoesIn : ℕ → History → History → Type 0
GoesIn zero h k = h ≡ k
GoesIn (suc n) h k = (last : History) × GoesIn n h last × GoesTo last k

-- what was left was settled, in some number of calls
pub record Settles (h k : History) : Type 0 where
  pub calls : ℕ
  pub goes : GoesIn calls h k

-- the era that is the present one once all is settled
pub record EndsAs (h : History) (era : Era) : Type 0 where
  pub last : History
  pub settles : Settles h last
  pub steps : era.steps.items ≡ last.steps
  pub is_sealed : era.is_sealed ≡ last.is_sealed

-- what is answered is of that era, and of what the lines read and wrote
pub record Finishes (h : History) (reports : List LineReport) (closed : Closed) : Type 0 where
  pub era : Era
  pub ends : EndsAs h era
  pub same : IsOf era reports closed

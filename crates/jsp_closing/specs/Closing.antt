-- What a history answers at its end.
use Rattle.std.specs.Prelude.{◌≡◌, ℕ, Bool, true, false, List, [], ◌++◌, length, filter, map, IsPermutation, None}
use Rattle.jsp_model.specs.declared.state.State.{State}
use Rattle.jsp_model.specs.declared.step.Step.{Step}
use Rattle.jsp_model.specs.declared.step.Step.TheVariants as step
use Rattle.jsp_model.specs.Lookup.{empty}
use Rattle.jsp_model.specs.Runs.{IsRun, state_after}
use Rattle.jsp_model.specs.Settling.{settle_step, AllQuiet}
use Rattle.jsp_laws.specs.Runs.{LawsOfRuns}
use Rattle.jsp_drive.specs.declared.era.Era.{Era}
use Rattle.jsp_closing.specs.Asking.{unasked_in}
use Rattle.jsp_closing.specs.declared.closed.Closed.{Closed}
use Rattle.jsp_closing.specs.declared.closed.Closed.TheVariants as closed
use Rattle.jsp_closing.specs.declared.closed.LineReport.{LineReport}
use Rattle.jsp_closing.specs.declared.closed.RunFault.{RunFault}
use Rattle.jsp_closing.specs.declared.closed.RunFault.TheVariants.{Audit, NoMemory, Spawn}
use Rattle.jsp_closing.specs.Lines.{AreLines}

-- no transaction votes, and every space is quiet
pub record IsAtRest (st : State) : Type 0 where
  pub none_votes : settle_step st ≡ None
  pub quiet : AllQuiet st

-- With some steps of earlier eras, none where no era was sealed, an era's steps are one run from the empty state, and the
-- history is at rest after it.
pub record RestsAfter (spaces : List (List ℕ)) (era : Era) : Type 0 where
  pub earlier : List Step
  pub first : era.is_sealed ≡ false → earlier ≡ []
  pub run : IsRun (empty spaces) (earlier ++ era.steps.items)
  pub rest : IsAtRest (state_after (empty spaces) (earlier ++ era.steps.items))

abbrev pub opens : Step → Bool
opens (step.Open s) = true
opens _ = false

-- The whole history of a house of these spaces, and its lines. The steps are one run from the empty state, so all laws of
-- runs hold in them, and it is at rest after it. There is one line for each session, by its number: as many sessions were
-- opened as there are lines, and the last of them has that number. What a line read and wrote is that of the run, if it is
-- whole.
pub record IsWhole (spaces : List (List ℕ)) (steps : List Step) (reports : List LineReport) : Type 0 where
  pub run : IsRun (empty spaces) steps
  pub laws : LawsOfRuns (empty spaces) steps
  pub rest : IsAtRest (state_after (empty spaces) steps)
  pub lines : AreLines (empty spaces) steps reports
  pub opened : length (filter opens steps) ≡ length reports
  pub all : length reports ≡ (state_after (empty spaces) steps).last_session

-- The steps of the last era, where those of earlier ones are gone. With these they are one run from the empty state, so all
-- laws of runs hold in it, and the history is at rest after it.
pub record IsLast (spaces : List (List ℕ)) (steps : List Step) : Type 0 where
  pub earlier : List Step
  pub run : IsRun (empty spaces) (earlier ++ steps)
  pub laws : LawsOfRuns (empty spaces) (earlier ++ steps)
  pub rest : IsAtRest (state_after (empty spaces) (earlier ++ steps))

-- the whole history, or where an era was sealed the last one
abbrev pub Closes : List (List ℕ) → Closed → Type 0
Closes spaces (closed.Whole steps lines) = IsWhole spaces steps.items lines.items
Closes spaces (closed.Sealed steps) = IsLast spaces steps.items

-- These may be the steps of the era, in which no era was sealed, and its lines: the lines as they were given, in another
-- order, and the era's steps, but for what is asked in them, which is read again from the lines. Where a line isn't whole
-- its session's steps are the era's.
abbrev pub IsHistoryOf : Era → List LineReport → List Step → List LineReport → Type 0
IsHistoryOf era reports steps lines =
    (era.is_sealed ≡ false) × IsPermutation reports lines × (map (unasked_in lines) steps ≡ map (unasked_in lines) era.steps.items)

-- What is answered of an era and of what lines read and wrote: where no era was sealed its history, else the era itself.
abbrev pub IsOf : Era → List LineReport → Closed → Type 0
IsOf era reports (closed.Whole steps lines) = IsHistoryOf era reports steps.items lines.items
IsOf era reports (closed.Sealed steps) = (era.is_sealed ≡ true) × (steps ≡ era.steps)

-- What should be the same differs: no history of the era and its lines is whole. Or a growth was refused, which says
-- nothing of them.
abbrev pub IsNotWhole : List (List ℕ) → Era → List LineReport → RunFault → Type 0
IsNotWhole spaces era reports Audit = (steps : List Step) (lines : List LineReport) → IsHistoryOf era reports steps lines → IsWhole spaces steps lines → ⊥
IsNotWhole spaces era reports NoMemory = Unit {0}
IsNotWhole spaces era reports Spawn = ⊥

-- What a line asked and was written, in a run.
use Rattle.std.specs.Prelude.{◌≡◌, ℕ, ◌+◌, ◌==◌, ◌⊎◌, Bool, true, false, List, [], ◌++◌, Some, slice_get}
use Rattle.std.specs.List.{list_any}
use Rattle.jsp_model.specs.declared.state.State.{State}
use Rattle.jsp_model.specs.declared.step.Step.{Step}
use Rattle.jsp_model.specs.declared.step.Step.TheVariants as step
use Rattle.jsp_model.specs.Lookup.{is_open}
use Rattle.jsp_model.specs.Runs.{state_after, said_to}
use Rattle.jsp_drive.specs.Streams.{requests_of}
use Rattle.jsp_drive.specs.Giving.{GaveAll}
use Rattle.jsp_drive.specs.declared.ended.Ended.{Ended}
use Rattle.jsp_drive.specs.declared.ended.Ended.TheVariants.{Cut, Stopped}
use Rattle.jsp_closing.specs.declared.closed.LineReport.{LineReport}
use Rattle.jsp_drive.specs.Bytes.{Begins, frames}

abbrev pub shuts : ℕ → Step → Bool
shuts s (step.Shut t) = t == s
shuts s _ = false

-- somebody shut the session
abbrev pub was_shut : ℕ → List Step → Bool
was_shut s steps = list_any (shuts s) steps

-- the session closed itself: it is closed after the run, and nobody shut it
pub record ClosedItself (s : ℕ) (st : State) (steps : List Step) : Type 0 where
  pub closed : is_open (state_after st steps) s ≡ false
  pub not_shut : was_shut s steps ≡ false

-- No call of the line was stopped. It was cut, at an input that made no step, only where a write had failed or the house
-- itself had shut its session.
abbrev pub MayEnd : Ended → Bool → Bool → Type 0
MayEnd Stopped write_failed by_house = ⊥
MayEnd Cut write_failed by_house = (write_failed ≡ true) ⊎ (by_house ≡ true)
MayEnd _ write_failed by_house = Unit {0}

-- the line was cut, at an input that made no step, since the house itself had shut its session
pub record WasCut (s : ℕ) (steps : List Step) (line : LineReport) : Type 0 where
  pub cut : line.ended ≡ Cut
  pub by_house : line.shut_by_house ≡ true
  pub shut : was_shut s steps ≡ true

-- The line of a session of a run. What its session asks in the run is what its bytes read say, in order. Something is left
-- that they say beyond that only where a write failed, the session closed itself, or the line was cut. The bytes written
-- are the frames of what the run says to it, or a first part where a write failed. Where the house noted that it shut the
-- session, the run has that.
pub record IsLine (s : ℕ) (st : State) (steps : List Step) (line : LineReport) : Type 0 where
  pub session : line.session ≡ s
  pub left : List Step
  pub too_long : Bool
  pub asked : GaveAll s line.read.items (requests_of s steps ++ left) too_long
  pub all_asked : line.write_failed ≡ false → (left ≡ []) ⊎ (ClosedItself s st steps ⊎ WasCut s steps line)
  pub written : Begins line.written.items (frames (said_to s st steps))
  pub all_written : line.write_failed ≡ false → line.written.items ≡ frames (said_to s st steps)
  pub ended : MayEnd line.ended line.write_failed line.shut_by_house
  pub noted : line.shut_by_house ≡ true → was_shut s steps ≡ true

-- the lines of the sessions 1, 2, 3 and so on; of one that isn't whole nothing is said but whose it is
abbrev pub AreLines : State → List Step → List LineReport → Type 0
AreLines st steps lines =
    (i : ℕ) (line : LineReport) → slice_get lines i ≡ Some line → (line.session ≡ i + 1) × (line.is_whole ≡ true → IsLine (i + 1) st steps line)

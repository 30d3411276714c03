-- What lines leave unasked. The line at the place i is that of the session i + 1.
use Rattle.std.specs.Prelude.{◌≡◌, ℕ, ◌+◌, ◌==◌, ◌||◌, ◌⊎◌, Bool, true, false, List, length, Some, slice_get}
use Rattle.jsp_model.specs.declared.state.State.{State}
use Rattle.jsp_model.specs.declared.step.Step.{Step}
use Rattle.jsp_model.specs.Lookup.{is_open}
use Rattle.jsp_drive.specs.Streams.{requests_of}
use Rattle.jsp_drive.specs.declared.ended.Ended.TheVariants.{Cut}
use Rattle.jsp_closing.specs.declared.closed.LineReport.{LineReport}
use Rattle.jsp_closing.specs.Asking.{SaysMore}
use Rattle.jsp_closing.specs.Lines.{was_shut, MayEnd, WasCut}

-- the flags tell of each session whether somebody shut it
abbrev pub TellShut : List Bool → List Step → Type 0
TellShut flags steps = (i : ℕ) (flag : Bool) → slice_get flags i ≡ Some flag → flag ≡ was_shut (i + 1) steps

-- the session's flag is set, if it has one
pub record Marks (s : ℕ) (old new : List Bool) : Type 0 where
  pub count : length new ≡ length old
  pub each : (i : ℕ) (flag : Bool) → slice_get new i ≡ Some flag → (before : Bool) × (slice_get old i ≡ Some before) × (flag ≡ (before || s == i + 1))

-- A line may say more than what was asked only where a write failed, where the session is closed and nobody shut it, or
-- where it was cut since the house had shut its session.
abbrev pub MayLeave : ℕ → Bool → State → LineReport → Bool → Type 0
MayLeave s shut after line more =
    line.write_failed ≡ false
    → (more ≡ false) ⊎ (((is_open after s ≡ false) × (shut ≡ false)) ⊎ ((line.ended ≡ Cut) × ((line.shut_by_house ≡ true) × (shut ≡ true))))

-- The line's bytes say what its session asks in the steps. They say more only where a write failed, where the session is
-- closed after them and nobody shut it, or where the line was cut. What the house noted of it is in the steps.
pub record AsksIn (s : ℕ) (steps : List Step) (after : State) (line : LineReport) : Type 0 where
  pub session : line.session ≡ s
  pub more : Bool
  pub says : SaysMore s line.read.items (requests_of s steps) more
  pub may_leave : line.write_failed ≡ false → (more ≡ false) ⊎ (((is_open after s ≡ false) × (was_shut s steps ≡ false)) ⊎ WasCut s steps line)
  pub ended : MayEnd line.ended line.write_failed line.shut_by_house
  pub noted : line.shut_by_house ≡ true → was_shut s steps ≡ true

-- it is the session's line, and asks in the steps if it is whole
abbrev pub MayAsk : ℕ → List Step → State → LineReport → Type 0
MayAsk s steps after line = (line.session ≡ s) × (line.is_whole ≡ true → AsksIn s steps after line)

abbrev pub AllAsk : List Step → State → List LineReport → Type 0
AllAsk steps after lines = (i : ℕ) (line : LineReport) → slice_get lines i ≡ Some line → MayAsk (i + 1) steps after line

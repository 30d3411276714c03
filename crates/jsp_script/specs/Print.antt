-- What a script prints.
use Rattle.std.specs.Prelude.{ℕ, ◌≡◌, ◌<◌, ◌≤◌, ◌^◌, ◌⊎◌, List, [], ◌∷◌, ◌++◌, drop, flat_map, length, decimal}
use Rattle.std.specs.Io.KnownBytes.{Appends}
use Rattle.std.specs.declared.option.Option.{Option}
use Rattle.jsp_model.specs.declared.step.Step.{Step}
use Rattle.jsp_model.specs.Lookup.{empty}
use Rattle.jsp_model.specs.Runs.{IsRun}
use Rattle.jsp_drive.specs.declared.acts.Act.{Act}
use Rattle.jsp_drive.specs.declared.acts.Sent.{Sent}
use Rattle.jsp_drive.specs.Tie.{IsTied}
use Rattle.jsp_script.specs.Script.{AreActsOf, lines_of}

-- the session's number, a blank, the frame without its length, and a newline
abbrev pub line_for : Sent → List ℕ
line_for sent = decimal sent.session ++ 32 ∷ (drop 4 sent.frame ++ 10 ∷ [])

-- The lines of all that is sent where the acts of the script are run: the steps are a legal run from the empty state,
-- which belongs to these acts, and so does what is sent.
pub record Prints (spaces : List (List ℕ)) (text printed : List ℕ) : Type 0 where
  pub acts : List Act
  pub steps : List Step
  pub sent : List Sent
  pub asked : AreActsOf (lines_of text) acts
  pub run : IsRun (empty spaces) steps
  pub tied : IsTied spaces acts steps sent
  pub printed_is : printed ≡ flat_map line_for sent

-- a script of this text was run, and its lines were written
pub record Wrote (spaces : List (List ℕ)) (text : List ℕ) (old new : Option (List ℕ)) : Type 0 where
  pub printed : List ℕ
  pub within : length text ≤ 2 ^ 24
  pub prints : Prints spaces text printed
  pub writes : Appends old new printed

-- it is longer than a script may be, or has a line that isn't understood
abbrev pub IsRefused : List ℕ → Type 0
IsRefused text = (2 ^ 24 < length text) ⊎ ((acts : List Act) → AreActsOf (lines_of text) acts → ⊥)

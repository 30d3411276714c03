-- What lines ask, read again from their bytes. The line at the place i is that of the session i + 1.
use Rattle.std.specs.Prelude.{◌≡◌, ℕ, ◌+◌, ◌-◌, ◌==◌, ◌&&◌, not, if◌then◌else◌, Bool, true, false, List, [], ◌∷◌, ◌++◌, length, map, Option, Some, None, slice_get, slice_set}
use Rattle.jsp_wire.specs.declared.ask.Request.{Request}
use Rattle.jsp_wire.specs.declared.ask.Ask.TheVariants.{Bye}
use Rattle.jsp_reply.specs.declared.refusal.Refusal.TheVariants.{TooLong}
use Rattle.jsp_model.specs.declared.step.Step.{Step}
use Rattle.jsp_model.specs.declared.step.Step.TheVariants as step
use Rattle.jsp_drive.specs.declared.hear.LineInput.{LineInput}
use Rattle.jsp_drive.specs.declared.line.Next.TheVariants as next
use Rattle.jsp_drive.specs.Line.{Unheard}
use Rattle.jsp_drive.specs.Streams.{requests_of}
use Rattle.jsp_drive.specs.Giving.{Gave, GaveAll, FollowsStream}
use Rattle.jsp_closing.specs.declared.closed.LineReport.{LineReport}
use Rattle.jsp_closing.specs.Within.{AskWithin}

-- each line was fed its bytes, and gave for them what its session asks in these steps, if it is whole
pub record HaveGiven (reports : List LineReport) (lines : List Unheard) (steps : List Step) : Type 0 where
  pub count : length lines ≡ length reports
  pub gave : (i : ℕ) (report : LineReport) (line : Unheard) → slice_get reports i ≡ Some report → slice_get lines i ≡ Some line → report.is_whole ≡ true
      → Gave (i + 1) report.read.items (requests_of (i + 1) steps) line

-- the session's line gave this input
pub record GivesInput (s : ℕ) (old new : List Unheard) (x : LineInput) : Type 0 where
  pub place : ℕ
  pub session : s ≡ place + 1
  pub before : Unheard
  pub after : Unheard
  pub here : slice_get old place ≡ Some before
  pub changed : new ≡ slice_set old place after
  pub follows : FollowsStream before (next.Input x) after

-- the session's line gave what it asks by this step, and no more
pub record GivesStep (s : ℕ) (step : Step) (old : Option Unheard) (after : Unheard) : Type 0 where
  pub before : Unheard
  pub was : old ≡ Some before
  pub goes : (stream : List ℕ) (asked : List Step) → Gave s stream asked before → Gave s stream (asked ++ requests_of s (step ∷ [])) after

-- each line gave what its session asks by this step
pub record GiveStep (step : Step) (old new : List Unheard) : Type 0 where
  pub count : length new ≡ length old
  pub each : (i : ℕ) (after : Unheard) → slice_get new i ≡ Some after → GivesStep (i + 1) step (slice_get old i) after

abbrev pub is_short : Option LineReport → Bool
is_short None = false
is_short (Some report) = not report.is_whole

-- the line of the session isn't whole
abbrev pub has_short_line : List LineReport → ℕ → Bool
has_short_line reports s = not (s == 0) && is_short (slice_get reports (s - 1))

-- a session asks by the step whose line isn't whole
abbrev pub asks_short : List LineReport → Step → Bool
asks_short reports (step.Ask s asked rows) = has_short_line reports s
asks_short reports (step.Fault s id refusal) = has_short_line reports s
asks_short reports other = false

-- these bytes say what was asked and then something more, or nothing
pub record SaysMore (s : ℕ) (read : List ℕ) (asked : List Step) (more : Bool) : Type 0 where
  pub left : List Step
  pub too_long : Bool
  pub says : GaveAll s read (asked ++ left) too_long
  pub nothing : more ≡ false → left ≡ []

-- what stands for any request
abbrev pub anything : Request
anything = record { id = 0; ask = Bye }

-- the step, but for what is asked in it
abbrev pub unasked : Step → Step
unasked (step.Ask s asked rows) = step.Ask s anything rows
unasked (step.Fault s id refusal) = step.Fault s None TooLong
unasked other = other

-- the step, but for what is asked in it by a session whose line isn't short
abbrev pub unasked_in : List LineReport → Step → Step
unasked_in reports step = if asks_short reports step then step else unasked step

-- ---- a history that the lines ask

-- the session's line has given what its bytes say so far, and they say this next
pub record HasNext (s : ℕ) (lines : List Unheard) (asked : Step) : Type 0 where
  pub place : ℕ
  pub session : s ≡ place + 1
  pub line : Unheard
  pub here : slice_get lines place ≡ Some line
  pub bytes : List ℕ
  pub before : List Step
  pub more : List Step
  pub too_long : Bool
  pub gave : Gave s bytes before line
  pub says : GaveAll s bytes (before ++ asked ∷ more) too_long

-- the first step is the second but for what is asked in it, and that is what the session's line gives next
pub record CanGive (lines : List Unheard) (wanted step : Step) : Type 0 where
  pub same : unasked wanted ≡ unasked step
  pub asks : (s : ℕ) (asked : Step) → requests_of s (wanted ∷ []) ≡ asked ∷ [] → HasNext s lines asked

-- so it is where the session's line is whole
pub record CanAsk (reports : List LineReport) (lines : List Unheard) (wanted step : Step) : Type 0 where
  pub same : unasked_in reports wanted ≡ unasked_in reports step
  pub asks : (s : ℕ) (asked : Step) → requests_of s (wanted ∷ []) ≡ asked ∷ [] → has_short_line reports s ≡ false → HasNext s lines asked

-- A history is these steps but for what is asked in it. Each session that asks has a line, and what it asks is what the
-- line's bytes say, and maybe more, if it is whole.
pub record CanBe (reports : List LineReport) (history steps : List Step) : Type 0 where
  pub same : map (unasked_in reports) history ≡ map (unasked_in reports) steps
  pub within : AskWithin (length reports) history
  pub asks : (i : ℕ) (report : LineReport) → slice_get reports i ≡ Some report → report.is_whole ≡ true
      → (left : List Step) × (too_long : Bool) × GaveAll (i + 1) report.read.items (requests_of (i + 1) history ++ left) too_long

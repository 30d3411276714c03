-- What a line reads and asks, turn by turn.
use Rattle.std.specs.Prelude.{◌≡◌, ℕ, ◌+◌, ◌⊎◌, Bool, true, false, List, [], ◌++◌, length, Option, Some, None}
use Rattle.std.specs.Io.KnownBytes.{Consumes, IsAtEnd}
use Rattle.jsp_model.specs.declared.step.Step.{Step}
use Rattle.jsp_drive.specs.Line.{Unheard}
use Rattle.jsp_drive.specs.Giving.{Gave, GaveAll, FeedsStream}
use Rattle.jsp_line.specs.declared.transcript.Transcript.{Transcript}
use Rattle.jsp_line.specs.declared.transcript.Transcript.TheVariants.{NoMemory}
use Rattle.jsp_drive.specs.declared.ended.Ended.{Ended}
use Rattle.jsp_drive.specs.declared.ended.Ended.TheVariants.{End, Failed, Closing, Cut, Stopped}
use Rattle.jsp_line.specs.Bytes.{IsTranscript}
use Rattle.jsp_line.specs.Reading.{Counts, EndsClosing, is_acted, Faults, Reads}

-- the line goes on: all that it gives for the bytes read was acted
pub record StaysOpen (s : ℕ) (before now : Option (List ℕ)) (transcript : Transcript) (line : Unheard) (n m : ℕ) : Type 0 where
  pub read : List ℕ
  pub consumed : Consumes before now read
  pub kept : IsTranscript transcript read
  pub room : transcript ≡ NoMemory → ⊥
  pub asked : List Step
  pub gave : Gave s read asked line
  pub counted : m ≡ n + length asked
  pub all : (too_long : Bool) × GaveAll s read asked too_long

abbrev pub ReadsOn : ℕ → Option (List ℕ) → Option (List ℕ) → Transcript → Unheard → Option Ended → ℕ → ℕ → Type 0
ReadsOn s before now transcript line None n m = StaysOpen s before now transcript line n m
ReadsOn s before now transcript line (Some ended) n m = Reads s before now transcript ended n m

-- a read that gives no piece to act
abbrev pub EndsReading : Option Ended → Option (List ℕ) → List ℕ → Type 0
EndsReading None left piece = Unit {0}
EndsReading (Some End) left piece = (piece ≡ []) × IsAtEnd left
EndsReading (Some Failed) left piece = piece ≡ []
EndsReading (Some Stopped) left piece = Unit {0}
EndsReading (Some _) left piece = ⊥

-- one read: a piece came, was kept, and fed to the line; or the line ends
pub record ReadsPiece (before after : Option (List ℕ)) (old new : Transcript) (line line' : Unheard) (ended : Option Ended) : Type 0 where
  pub piece : List ℕ
  pub consumed : Consumes before after piece
  pub kept : (all : List ℕ) → IsTranscript old all → IsTranscript new (all ++ piece)
  pub room : new ≡ NoMemory → (old ≡ NoMemory) ⊎ (ended ≡ Some Stopped)
  pub fed : FeedsStream line piece line'
  pub ends : EndsReading ended after piece

abbrev pub FaultsOn : Option Ended → ℕ → ℕ → Type 0
FaultsOn None before after = after ≡ before
FaultsOn (Some ended) before after = Faults ended before after

-- what the act of one input does: how the count rises, and why the line ends, where it does
abbrev pub ActsOne : Option Ended → Bool → ℕ → ℕ → Type 0
ActsOne None closing before after = after ≡ before + 1
ActsOne (Some Closing) closing before after = (after ≡ before + 1) × (closing ≡ true)
ActsOne (Some Cut) closing before after = after ≡ before
ActsOne (Some Stopped) closing before after = (after ≡ before) ⊎ (after ≡ before + 1)
ActsOne (Some _) closing before after = ⊥

-- what the line gave next was acted
pub record ActsMore (s : ℕ) (stream : List ℕ) (asked : List Step) (line : Unheard) (n m : ℕ) : Type 0 where
  pub more : List Step
  pub gave : Gave s stream (asked ++ more) line
  pub counted : m ≡ n + length more

-- all of it, or up to the input that ended the line
abbrev pub ActsAll : Option Ended → ℕ → List ℕ → List Step → Unheard → ℕ → ℕ → Type 0
ActsAll None s stream asked line n m = (w : ActsMore s stream asked line n m) × (too_long : Bool) × GaveAll s stream (asked ++ w.more) too_long
ActsAll (Some ended) s stream asked line n m =
    (is_acted ended ≡ false)
    × (more : List Step) × Gave s stream (asked ++ more) line × Counts ended n m (length more) × (ended ≡ Closing → EndsClosing (asked ++ more))

-- How far what lines were written is the frames of what was said to them. The line at the place i is that of the session i + 1.
use Rattle.std.specs.Prelude.{◌≡◌, ℕ, ◌+◌, ◌==◌, ◌⊎◌, Bool, true, false, List, [], ◌++◌, length, map, filter, Some, slice_get}
use Rattle.jsp_reply.specs.declared.reply.Reply.{Reply}
use Rattle.jsp_model.specs.Answers.{Saying}
use Rattle.jsp_closing.specs.declared.closed.LineReport.{LineReport}
use Rattle.jsp_drive.specs.Bytes.{Begins, frames}

-- of what was said, the answers to one session
abbrev pub answers_to : ℕ → List Saying → List Reply
answers_to s said = map (λ (a : Saying). a.1) (filter (λ (a : Saying). a.0 == s) said)

-- So many of the bytes written begin the frames. They are all frames, or else nothing more was written, since a write failed.
pub record Matches (write_failed : Bool) (written all : List ℕ) (matched : ℕ) : Type 0 where
  pub front : List ℕ
  pub unmatched : List ℕ
  pub missing : List ℕ
  pub count : matched ≡ length front
  pub written_is : written ≡ front ++ unmatched
  pub all_is : all ≡ front ++ missing
  pub ended : (missing ≡ []) ⊎ ((unmatched ≡ []) × (write_failed ≡ true))

-- of each line that is whole so many bytes are matched by the frames of what was said to its session
pub record AreMatched (reports : List LineReport) (matched : List ℕ) (said : List Saying) : Type 0 where
  pub count : length matched ≡ length reports
  pub each : (i : ℕ) (report : LineReport) (n : ℕ) → slice_get reports i ≡ Some report → slice_get matched i ≡ Some n → report.is_whole ≡ true
      → Matches report.write_failed report.written.items (frames (answers_to (i + 1) said)) n

-- the bytes written are all that were to be, or where a write failed a first part of them
pub record AreBytesOf (write_failed : Bool) (written all : List ℕ) : Type 0 where
  pub begins : Begins written all
  pub all_written : write_failed ≡ false → written ≡ all

-- what the line was written is the frames of what was said to the session, or where a write failed a first part of them
abbrev pub IsWritten : ℕ → List Saying → LineReport → Type 0
IsWritten s said line = AreBytesOf line.write_failed line.written.items (frames (answers_to s said))

-- so it is, if the line is whole
abbrev pub MayBeWritten : ℕ → List Saying → LineReport → Type 0
MayBeWritten s said line = line.is_whole ≡ true → IsWritten s said line

abbrev pub AreWritten : List LineReport → List Saying → Type 0
AreWritten lines said = (i : ℕ) (line : LineReport) → slice_get lines i ≡ Some line → MayBeWritten (i + 1) said line

-- Bytes that were read or written, and what is kept of them.
use Rattle.std.specs.Prelude.{◌≡◌, ℕ, ◌+◌, ◌-◌, ◌^◌, min, Bool, true, false, List}
use Rattle.jsp_line.specs.declared.transcript.Transcript.{Transcript}
use Rattle.jsp_line.specs.declared.transcript.Transcript.TheVariants as transcript

-- one more, up to the greatest number
abbrev pub saturated : ℕ → ℕ
saturated n = min (n + 1) (2 ^ 64 - 1)

-- it has the bytes
abbrev pub has_bytes : Transcript → Bool
has_bytes (transcript.Whole bytes) = true
has_bytes _ = false

-- a transcript is of these bytes, if it has them
abbrev pub IsTranscript : Transcript → List ℕ → Type 0
IsTranscript (transcript.Whole bytes) all = bytes.items ≡ all
IsTranscript (transcript.Sealed shown) all = Unit {0}
IsTranscript transcript.NoMemory all = Unit {0}

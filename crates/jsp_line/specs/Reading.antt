-- What a line read, and what was asked by it.
use Rattle.std.specs.Prelude.{◌≡◌, ℕ, ◌+◌, ◌⊎◌, Bool, true, false, List, ◌∷◌, ◌++◌, [], length, Option}
use Rattle.std.specs.Io.KnownBytes.{Consumes, IsAtEnd}
use Rattle.jsp_wire.specs.declared.ask.Ask.{Ask}
use Rattle.jsp_wire.specs.declared.ask.Ask.TheVariants as ask
use Rattle.jsp_reply.specs.declared.refusal.Refusal.{Refusal}
use Rattle.jsp_reply.specs.declared.refusal.Refusal.TheVariants.{TooLong}
use Rattle.jsp_model.specs.declared.step.Step.{Step}
use Rattle.jsp_model.specs.declared.step.Step.TheVariants as step
use Rattle.jsp_drive.specs.Line.{Unheard}
use Rattle.jsp_drive.specs.Giving.{Gave, GaveAll}
use Rattle.jsp_line.specs.declared.transcript.Transcript.{Transcript}
use Rattle.jsp_line.specs.declared.transcript.Transcript.TheVariants.{NoMemory}
use Rattle.jsp_drive.specs.declared.ended.Ended.{Ended}
use Rattle.jsp_drive.specs.declared.ended.Ended.TheVariants.{End, Failed, Bound, Closing, Cut, Stopped}
use Rattle.jsp_line.specs.Bytes.{saturated, IsTranscript}

abbrev pub is_bye : Ask → Bool
is_bye ask.Bye = true
is_bye _ = false

abbrev pub is_too_long : Refusal → Bool
is_too_long TooLong = true
is_too_long _ = false

-- a request or fault that closes its session, unless it is refused
abbrev pub is_closing : Step → Bool
is_closing (step.Ask s asked rows) = is_bye asked.ask
is_closing (step.Fault s id refusal) = is_too_long refusal
is_closing _ = false

-- The count rose by so many inputs; where the line was cut the last made no step, and where it was stopped it may have made
-- none.
abbrev pub Counts : Ended → ℕ → ℕ → ℕ → Type 0
Counts Cut before after n = after + 1 ≡ before + n
Counts Stopped before after n = (after ≡ before + n) ⊎ (after + 1 ≡ before + n)
Counts _ before after n = after ≡ before + n

-- the last of them is a `bye` or the fault of a frame that is too long
abbrev pub EndsClosing : List Step → Type 0
EndsClosing asked = (first : List Step) × (last : Step) × (asked ≡ first ++ last ∷ []) × (is_closing last ≡ true)

-- it ended with nothing asked that wasn't acted
abbrev pub is_acted : Ended → Bool
is_acted End = true
is_acted Failed = true
is_acted Bound = true
is_acted _ = false

-- a fault is counted where a read failed, and only there
abbrev pub Faults : Ended → ℕ → ℕ → Type 0
Faults Failed before after = after ≡ saturated before
Faults _ before after = after ≡ before

-- What a line read and asked. The bytes read are what its transcript has; there are none where an era was sealed, or else
-- where the line was stopped. What the line gives for them was acted, in order, and counted at its seat; all of it, where the
-- line ended without an input that ended it.
pub record Reads (s : ℕ) (before after : Option (List ℕ)) (transcript : Transcript) (ended : Ended) (n m : ℕ) : Type 0 where
  pub read : List ℕ
  pub consumed : Consumes before after read
  pub kept : IsTranscript transcript read
  pub room : transcript ≡ NoMemory → ended ≡ Stopped
  pub asked : List Step
  pub line : Unheard
  pub gave : Gave s read asked line
  pub counted : Counts ended n m (length asked)
  pub all : is_acted ended ≡ true → (too_long : Bool) × GaveAll s read asked too_long
  pub closing : ended ≡ Closing → EndsClosing asked
  pub at_end : ended ≡ End → IsAtEnd after

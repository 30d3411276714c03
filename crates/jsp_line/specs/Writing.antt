-- What was taken for a line and written.
use Rattle.std.specs.Prelude.{◌≡◌, ℕ, ◌<◌, ◌⊎◌, Bool, true, false, List, [], ◌++◌, length, take, Option, Result, Ok, Err, Vec}
use Rattle.std.specs.declared.alloc.Global.{Global}
use Rattle.std.specs.Io.KnownBytes.{Appends}
use Rattle.jsp_reply.specs.declared.reply.Reply.{Reply}
use Rattle.jsp_model.specs.declared.house.Stopped.{Stopped}
use Rattle.jsp_kept.specs.History.{Place}
use Rattle.jsp_drive.specs.Bytes.{Begins, frames}
use Rattle.jsp_line.specs.declared.transcript.Transcript.{Transcript}
use Rattle.jsp_line.specs.declared.transcript.Transcript.TheVariants.{NoMemory}
use Rattle.jsp_line.specs.declared.answer_writer.Health.{Health}
use Rattle.jsp_line.specs.declared.answer_writer.Health.TheVariants.{Sound, Failed}
use Rattle.jsp_line.specs.Bytes.{IsTranscript}

abbrev pub is_sound : Health → Bool
is_sound Sound = true
is_sound _ = false

-- the answers that a call gave; none where it was stopped
abbrev pub said_in : Result (Vec Reply Global) Stopped → List Reply
said_in (Ok said) = said.items
said_in (Err stopped) = []

-- what writes a line's answers, as contracts see it, with the bytes that are still to be written
pub record Writer : Type 0 where
  pub seat : Place
  pub health : Health
  pub unwritten : List ℕ

-- What is true whenever its lock is free. So many answers were taken. What was written is a first part of their
-- frames, and with what is to be written all of them where it is sound. The writer has what it had at the start, and then what
-- was written.
pub record IsWriter (start now : Option (List ℕ)) (count : ℕ) (health : Health) (failures : ℕ) (unwritten : List ℕ) (transcript : Transcript) : Type 0 where
  pub said : List Reply
  pub written : List ℕ
  pub counted : length said ≡ count
  pub begins : Begins written (frames said)
  pub whole : is_sound health ≡ true → written ++ unwritten ≡ frames said
  pub writer : Appends start now written
  pub kept : IsTranscript transcript written
  pub room : transcript ≡ NoMemory → is_sound health ≡ false
  pub told : health ≡ Failed → 0 < failures

-- Answers are taken: where it is sound afterwards it was before, and their frames are behind what is to be written.
abbrev pub Puts : Health → List ℕ → List Reply → Health → List ℕ → Type 0
Puts before unwritten said after unwritten' = is_sound after ≡ true → (is_sound before ≡ true) × (unwritten' ≡ unwritten ++ frames said)

-- A first part of what is to be written is; all of it, where it is sound afterwards. Where a write failed that was counted.
pub record WritesAll (before after : Option (List ℕ)) (old new : Transcript) (unwritten : List ℕ) (health : Health) (failures : ℕ) : Type 0 where
  pub taken : ℕ
  pub writer : Appends before after (take taken unwritten)
  pub kept : (all : List ℕ) → IsTranscript old all → IsTranscript new (all ++ take taken unwritten)
  pub room : new ≡ NoMemory → (old ≡ NoMemory) ⊎ (is_sound health ≡ false)
  pub whole : is_sound health ≡ true → taken ≡ length unwritten
  pub told : health ≡ Failed → 0 < failures

-- What a line wrote: so many answers were taken, and what was written is a first part of their frames, all of them where
-- the line is sound. Where a write failed that was counted. The bytes written are what its transcript has; there are none
-- where an era was sealed, or else where the line isn't sound.
pub record Writes (before after : Option (List ℕ)) (count : ℕ) (health : Health) (failures : ℕ) (transcript : Transcript) : Type 0 where
  pub said : List Reply
  pub written : List ℕ
  pub counted : length said ≡ count
  pub begins : Begins written (frames said)
  pub whole : is_sound health ≡ true → written ≡ frames said
  pub writer : Appends before after written
  pub kept : IsTranscript transcript written
  pub room : transcript ≡ NoMemory → is_sound health ≡ false
  pub told : health ≡ Failed → 0 < failures

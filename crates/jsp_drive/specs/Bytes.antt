-- Bytes that were written.
use Rattle.std.specs.Prelude.{◌≡◌, ℕ, List, ◌++◌, flat_map}
use Rattle.jsp_reply.specs.declared.reply.Reply.{Reply}
use Rattle.jsp_drive.specs.Heard.{framed}

abbrev pub Begins : List ℕ → List ℕ → Type 0
Begins part whole = (rest : List ℕ) × (part ++ rest ≡ whole)

-- the frames of answers, one after another
abbrev pub frames : List Reply → List ℕ
frames said = flat_map framed said

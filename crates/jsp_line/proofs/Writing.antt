-- What writes a line's answers keeps this from call to call.
use Rattle.std.proofs.Common.{◌≡◌, ℕ, ◌+◌, true, false, List, [], ◌++◌, length, take, drop, refl, ap, sym, ◌∙◌, append_assoc, append-nil, length-append, take-append-drop, inl, inr}
use Rattle.std.specs.Prelude.{Bool, Option, ◌⊎◌}
use Rattle.std.proofs.lemmas.Grind.{flat_map-append}
use Rattle.std.proofs.Math.Seq.{take-length}
use Rattle.std.proofs.KnownBytes.{Appends-trans, Appends-nil}
use Rattle.jsp_reply.specs.declared.reply.Reply.{Reply}
use Rattle.jsp_drive.specs.Heard.{framed}
use Rattle.jsp_line.specs.declared.transcript.Transcript.{Transcript}
use Rattle.jsp_line.specs.declared.transcript.Transcript.TheVariants.{NoMemory}
use Rattle.jsp_line.specs.declared.answer_writer.Health.{Health}
use Rattle.jsp_line.specs.declared.answer_writer.Health.TheVariants.{Sound, Failed}
use Rattle.jsp_line.specs.Bytes.{IsTranscript}
use Rattle.jsp_drive.specs.Bytes.{frames}
use Rattle.jsp_line.specs.Writing.{is_sound, Puts, IsWriter, Writes, WritesAll}

-- before the first answer
pub writer_start : (start now : Option (List ℕ)) (count failures : ℕ) (health : Health) (unwritten : List ℕ) (transcript : Transcript)
    → count ≡ 0 → now ≡ start → health ≡ Sound → unwritten ≡ [] → IsTranscript transcript [] → (transcript ≡ NoMemory → ⊥)
    → IsWriter start now count health failures unwritten transcript
writer_start start now count failures health unwritten transcript none same sound empty kept room = record {
  said = [];
  written = [];
  counted = sym none;
  begins = ([], refl);
  whole = λ e. empty;
  writer = rw same (Appends-nil start);
  kept = kept;
  room = λ e. absurd (room e);
  told = λ e. absurd (cc (sound, e));
}

-- what is sound now was sound before
still_unsound : (before after : Bool) → (after ≡ true → before ≡ true) → before ≡ false → after ≡ false
still_unsound before false was unsound = refl
still_unsound before true was unsound = absurd (cc (was refl, unsound))

-- answers are taken
pub writer_put : (start now : Option (List ℕ)) (count count' failures : ℕ) (health health' : Health) (unwritten unwritten' : List ℕ) (transcript transcript' : Transcript) (said : List Reply)
    → IsWriter start now count health failures unwritten transcript
    → count' ≡ count + length said
    → Puts health unwritten said health' unwritten'
    → (health' ≡ Failed → health ≡ Failed)
    → ((all : List ℕ) → IsTranscript transcript all → IsTranscript transcript' all)
    → (transcript' ≡ NoMemory → transcript ≡ NoMemory)
    → IsWriter start now count' health' failures unwritten' transcript'
writer_put start now count count' failures health health' unwritten unwritten' transcript transcript' said was up puts failed kept room = record {
  said = was.said ++ said;
  written = was.written;
  counted = length-append was.said said ∙ ap (λ n. n + length said) was.counted ∙ sym up;
  begins = (was.begins.0 ++ frames said, sym (append_assoc was.written was.begins.0 (frames said)) ∙ ap (λ l. l ++ frames said) was.begins.1 ∙ sym (flat_map-append framed was.said said));
  whole = λ e. ap (λ l. was.written ++ l) (puts e).1 ∙ sym (append_assoc was.written unwritten (frames said)) ∙ ap (λ l. l ++ frames said) (was.whole (puts e).0) ∙ sym (flat_map-append framed was.said said);
  writer = was.writer;
  kept = kept was.written was.kept;
  room = λ e. still_unsound (is_sound health) (is_sound health') (λ s. (puts s).0) (was.room (room e));
  told = λ e. was.told (failed e);
}

-- a transcript that there was memory for before
room_written : (before after : Bool) (lost : Type 0) → (lost → before ≡ false) → before ≡ true → lost ⊎ (after ≡ false) → after ≡ false
room_written before after lost room sound (inl was) = absurd (cc (room was, sound))
room_written before after lost room sound (inr now) = now

-- what is to be written is, and cleared
pub writer_written : (start now now' : Option (List ℕ)) (count failures failures' : ℕ) (health health' : Health) (unwritten unwritten' : List ℕ) (transcript transcript' : Transcript)
    → IsWriter start now count health failures unwritten transcript
    → is_sound health ≡ true
    → WritesAll now now' transcript transcript' unwritten health' failures'
    → unwritten' ≡ []
    → IsWriter start now' count health' failures' unwritten' transcript'
writer_written start now now' count failures failures' health health' unwritten unwritten' transcript transcript' was sound writes cleared =
    let part = take writes.taken unwritten in
    record {
      said = was.said;
      written = was.written ++ part;
      counted = was.counted;
      begins = (drop writes.taken unwritten, append_assoc was.written part (drop writes.taken unwritten) ∙ ap (λ l. was.written ++ l) (take-append-drop writes.taken unwritten) ∙ was.whole sound);
      whole = λ e. ap (λ l. (was.written ++ part) ++ l) cleared ∙ append-nil (was.written ++ part) ∙ ap (λ l. was.written ++ l) (ap (λ k. take k unwritten) (writes.whole e) ∙ take-length unwritten) ∙ was.whole sound;
      writer = Appends-trans start now now' was.written part was.writer writes.writer;
      kept = writes.kept was.written was.kept;
      room = λ e. room_written (is_sound health) (is_sound health') (transcript ≡ NoMemory) was.room sound (writes.room e);
      told = writes.told;
    }

-- nothing is to be written, and no lock is left
pub writer_done : (start now : Option (List ℕ)) (count failures : ℕ) (health : Health) (unwritten : List ℕ) (transcript : Transcript)
    → IsWriter start now count health failures unwritten transcript
    → (is_sound health ≡ true → unwritten ≡ [])
    → Writes start now count health failures transcript
writer_done start now count failures health unwritten transcript was empty = record {
  said = was.said;
  written = was.written;
  counted = was.counted;
  begins = was.begins;
  whole = λ e. sym (append-nil was.written) ∙ ap (λ l. was.written ++ l) (sym (empty e)) ∙ was.whole e;
  writer = was.writer;
  kept = was.kept;
  room = was.room;
  told = was.told;
}

-- nothing was taken and written
pub writes_nothing : (start : Option (List ℕ)) (count : ℕ) (transcript : Transcript) → count ≡ 0 → IsTranscript transcript [] → (transcript ≡ NoMemory → ⊥) → Writes start start count Sound 0 transcript
writes_nothing start count transcript none kept room =
    writer_done start start count 0 Sound [] transcript (writer_start start start count 0 Sound [] transcript none refl refl refl kept room) (λ e. refl)

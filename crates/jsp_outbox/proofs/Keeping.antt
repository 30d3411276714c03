-- Outboxes stay in order, and none stays empty, whatever is posted, taken back and handed out.
use Rattle.std.proofs.Common.{◌≡◌, ℕ, ◌-◌, ◌<◌, Bool, true, false, nat_lt, nat_le, List, [], length, take, drop, Option, Some, None, Result, Ok, Err, refl, ap, sym, ◌∙◌, arith, length-drop, length-take}
use Rattle.std.specs.Prelude.{position, IfOk, OnOk, OnErr}
use Rattle.std.proofs.lemmas.Bool.{leb-false, ltb-true, ltb-false}
use Rattle.std.proofs.lemmas.Option.{slice_get-get_or, slice_get_past}
use Rattle.jsp_model.specs.declared.state.Outbox.{Outbox}
use Rattle.jsp_model.specs.Answers.{Saying}
use Rattle.jsp_model.specs.Outboxes.{post, hand_out}
use Rattle.jsp_model.specs.Limits.{are_outboxes}
use Rattle.jsp_model.proofs.Outboxes.{rising_post}
use Rattle.jsp_outbox.specs.declared.post.Posted.{Posted}
use Rattle.jsp_outbox.specs.Outboxes.{before, without_last, without_last_of, later_answers, without_first_of, without_first}
use Rattle.jsp_outbox.proofs.Order.{box_at, rising_removed, rising_set}
use Rattle.jsp_outbox.proofs.Finding.{is_mine}
use Rattle.jsp_outbox.proofs.Handing.{handed, handed_none}

-- ---- an answer is taken back

cut_last : (boxes : List Outbox) (i : ℕ) (few : Bool) → nat_le (length (box_at boxes i).answers) 1 ≡ few → are_outboxes boxes ≡ true → i < length boxes → are_outboxes (without_last_of boxes i (Some (box_at boxes i))) ≡ true
cut_last boxes i true few h lt = rw few (rising_removed boxes i h)
cut_last boxes i false few h lt =
    let b = box_at boxes i in
    let more = leb-false (length b.answers) 1 few in
    let full : 0 < length (take (length b.answers - 1) b.answers) = omega (arith, length-take (length b.answers - 1) b.answers, more) in
    rw few (rising_set boxes i (without_last b) h lt refl full)

pub rising_before : (boxes : List Outbox) (p : Posted) → are_outboxes boxes ≡ true → are_outboxes (before p boxes) ≡ true
rising_before boxes p h = go (nat_lt p.place (length boxes)) refl
  where
    go : (there : Bool) → nat_lt p.place (length boxes) ≡ there → are_outboxes (before p boxes) ≡ true
    go true lt =
        let less = ltb-true p.place (length boxes) lt in
        rw (slice_get-get_or boxes p.place (record { session = 0; answers = [] }) less) (cut_last boxes p.place (nat_le (length (box_at boxes p.place).answers) 1) refl h less)
    go false ge = rw (slice_get_past boxes p.place (ltb-false p.place (length boxes) ge)) h

-- ---- answers are handed out

cut_first : (boxes : List Outbox) (i n : ℕ) (all : Bool) → nat_le (length (box_at boxes i).answers) n ≡ all → are_outboxes boxes ≡ true → i < length boxes → are_outboxes (without_first_of boxes i n (Some (box_at boxes i))) ≡ true
cut_first boxes i n true all h lt = rw all (rising_removed boxes i h)
cut_first boxes i n false all h lt =
    let b = box_at boxes i in
    let more = leb-false (length b.answers) n all in
    let full : 0 < length (drop n b.answers) = omega (arith, length-drop n b.answers, more) in
    rw all (rising_set boxes i (later_answers b n) h lt refl full)

rising_without_first : (boxes : List Outbox) (i n : ℕ) → are_outboxes boxes ≡ true → are_outboxes (without_first boxes i n) ≡ true
rising_without_first boxes i n h = go (nat_lt i (length boxes)) refl
  where
    go : (there : Bool) → nat_lt i (length boxes) ≡ there → are_outboxes (without_first boxes i n) ≡ true
    go true lt =
        let less = ltb-true i (length boxes) lt in
        rw (slice_get-get_or boxes i (record { session = 0; answers = [] }) less) (cut_first boxes i n (nat_le (length (box_at boxes i).answers) n) refl h less)
    go false ge = rw (slice_get_past boxes i (ltb-false i (length boxes) ge)) h

rising_handed : (boxes : List Outbox) (s n : ℕ) → are_outboxes boxes ≡ true → are_outboxes (hand_out s n boxes) ≡ true
rising_handed boxes s n h = go (position (is_mine s) boxes) refl
  where
    go : (o : Option ℕ) → position (is_mine s) boxes ≡ o → are_outboxes (hand_out s n boxes) ≡ true
    go None none = ap are_outboxes (sym (handed_none boxes s n h none).0) ∙ h
    go (Some i) at = ap are_outboxes (sym (handed s n i boxes h at)) ∙ rising_without_first boxes i n h

-- ---- whole or not at all

pub kept_posted : {T E : Type 0} (r : Result T E) (old new : List Outbox) (a : Saying) (Q : T → Type 0) → are_outboxes old ≡ true → IfOk r (λ p. (new ≡ post old a) × Q p) → OnErr r (new ≡ old) → are_outboxes new ≡ true
kept_posted (Ok p) old new a Q h ok err = ap are_outboxes ok.0 ∙ rising_post old a h
kept_posted (Err e) old new a Q h ok err = ap are_outboxes err ∙ h

pub kept_handed : {T E : Type 0} (r : Result T E) (old new : List Outbox) (s n : ℕ) → are_outboxes old ≡ true → OnOk r (new ≡ hand_out s n old) → OnErr r (new ≡ old) → are_outboxes new ≡ true
kept_handed (Ok v) old new s n h ok err = ap are_outboxes ok ∙ rising_handed old s n h
kept_handed (Err e) old new s n h ok err = ap are_outboxes err ∙ h

-- What was written is matched frame by frame.
use Rattle.std.proofs.Common.{◌≡◌, ℕ, ◌+◌, ◌<◌, ◌≤◌, Bool, true, false, List, [], ◌∷◌, ◌++◌, length, take, drop, eqb, refl, ap, sym, ◌∙◌, subst, inl, inr, arith, append-nil, append_assoc, length-append, drop_at}
use Rattle.std.specs.Prelude.{filter, map, Some, slice_get}
use Rattle.std.proofs.lemmas.List.{append_cancel_left, length-set, take-append-drop, take-append-le, length-take-le, drop_all, nil_from_length, map-append}
use Rattle.std.proofs.lemmas.List.Elements.{filter-append}
use Rattle.std.proofs.lemmas.Grind.{flat_map-append}
use Rattle.std.proofs.lemmas.Bool.{cases_lt, eq-eqb, ne_eqb}
use Rattle.std.proofs.Math.ListN.{set}
use Rattle.jsp_reply.specs.declared.reply.Reply.{Reply}
use Rattle.jsp_model.specs.Answers.{Saying}
use Rattle.jsp_drive.specs.Heard.{framed}
use Rattle.jsp_closing.specs.declared.closed.LineReport.{LineReport}
use Rattle.jsp_drive.specs.Bytes.{frames}
use Rattle.jsp_closing.specs.Writing.{answers_to, AreBytesOf, AreMatched, AreWritten, IsWritten, Matches}
use Rattle.jsp_closing.proofs.Places.{at_set}

-- ---- one line

-- before the first frame
pub matches_none : (failed : Bool) (written : List ℕ) → Matches failed written [] 0
matches_none failed written = record {
  front = [];
  unmatched = written;
  missing = [];
  count = refl;
  written_is = refl;
  all_is = refl;
  ended = inl refl;
}

-- a frame more, of which so many bytes were written behind those before
matches_whole : (failed : Bool) (written all frame front unmatched : List ℕ) (n k : ℕ)
    → n ≡ length front → written ≡ front ++ unmatched → all ≡ front → take k unmatched ≡ take k frame → k ≤ length frame → k ≤ length unmatched
    → (k < length frame → (length unmatched ≤ k) × (failed ≡ true)) → Matches failed written (all ++ frame) (n + k)
matches_whole failed written all frame front unmatched n k count whole is same within written_in short = record {
  front = front ++ take k unmatched;
  unmatched = drop k unmatched;
  missing = drop k frame;
  count = omega (arith, count, length-append front (take k unmatched), length-take-le k unmatched written_in);
  written_is = whole ∙ ap (λ xs. front ++ xs) (sym (take-append-drop k unmatched)) ∙ sym (append_assoc front (take k unmatched) (drop k unmatched));
  all_is = ap (λ xs. xs ++ frame) is ∙ ap (λ xs. front ++ xs) (sym (take-append-drop k frame)) ∙ ap (λ xs. front ++ (xs ++ drop k frame)) (sym same)
      ∙ sym (append_assoc front (take k unmatched) (drop k frame));
  ended = elim (cases_lt k (length frame)) [
    | inl less ↦ inr (drop_all k unmatched (short less).0, (short less).1)
    | inr whole' ↦ inl (drop_all k frame whole')
  ];
}

-- nothing is written behind a write that failed
matches_failed : (failed : Bool) (written all frame front unmatched missing : List ℕ) (n k : ℕ)
    → n ≡ length front → written ≡ front ++ unmatched → all ≡ front ++ missing → unmatched ≡ [] → failed ≡ true → k ≤ length unmatched
    → Matches failed written (all ++ frame) (n + k)
matches_failed failed written all frame front unmatched missing n k count whole is none broken within = record {
  front = front;
  unmatched = unmatched;
  missing = missing ++ frame;
  count = omega (arith, count, within, ap length none);
  written_is = whole;
  all_is = ap (λ xs. xs ++ frame) is ∙ append_assoc front missing frame;
  ended = inr (none, broken);
}

pub matches_more : (failed : Bool) (written all frame : List ℕ) (n k : ℕ)
    → take k (drop n written) ≡ take k frame → k ≤ length frame → k ≤ length (drop n written)
    → (k < length frame → (length (drop n written) ≤ k) × (failed ≡ true)) → Matches failed written all n → Matches failed written (all ++ frame) (n + k)
matches_more failed written all frame n k same within written_in short h =
    let rest : drop n written ≡ h.unmatched = rw h.written_is (drop_at h.front h.unmatched n (sym h.count)) in
    let same' : take k h.unmatched ≡ take k frame = ap (take k) (sym rest) ∙ same in
    let within' : k ≤ length h.unmatched = omega (arith, written_in, ap length rest) in
    let short' : k < length frame → (length h.unmatched ≤ k) × (failed ≡ true) = λ less. (omega (arith, (short less).0, ap length rest), (short less).1) in
    elim h.ended [
      | inl none ↦
          matches_whole failed written all frame h.front h.unmatched n k h.count h.written_is (h.all_is ∙ ap (λ xs. h.front ++ xs) none ∙ append-nil h.front) same' within within' short'
      | inr broken ↦ matches_failed failed written all frame h.front h.unmatched h.missing n k h.count h.written_is h.all_is broken.0 broken.1 within'
    ]

-- ---- all lines

frames-append : (xs ys : List Reply) → frames (xs ++ ys) ≡ frames xs ++ frames ys
frames-append xs ys = flat_map-append framed xs ys

answers_to-append : (s : ℕ) (xs ys : List Saying) → answers_to s (xs ++ ys) ≡ answers_to s xs ++ answers_to s ys
answers_to-append s xs ys =
    ap (map (λ (a : Saying). a.1)) (filter-append (λ (a : Saying). eqb a.0 s) xs ys)
    ∙ map-append (λ (a : Saying). a.1) (filter (λ (a : Saying). eqb a.0 s) xs) (filter (λ (a : Saying). eqb a.0 s) ys)

frames_to-append : (s : ℕ) (xs ys : List Saying) → frames (answers_to s (xs ++ ys)) ≡ frames (answers_to s xs) ++ frames (answers_to s ys)
frames_to-append s xs ys = ap frames (answers_to-append s xs ys) ∙ frames-append (answers_to s xs) (answers_to s ys)

-- one answer's frame, for its session and for another
frames_mine : (s t : ℕ) (answer : Reply) (said : List Saying) → t ≡ s → frames (answers_to s (said ++ (t, answer) ∷ [])) ≡ frames (answers_to s said) ++ framed answer
frames_mine s t answer said mine =
    frames_to-append s said ((t, answer) ∷ []) ∙ rw (eq-eqb t s mine) (ap (λ xs. frames (answers_to s said) ++ xs) (append-nil (framed answer)))

frames_other : (s t : ℕ) (answer : Reply) (said : List Saying) → eqb t s ≡ false → frames (answers_to s (said ++ (t, answer) ∷ [])) ≡ frames (answers_to s said)
frames_other s t answer said apart =
    frames_to-append s said ((t, answer) ∷ []) ∙ rw apart (append-nil (frames (answers_to s said)))

-- before the first answer
pub are_matched_none : (reports : List LineReport) (matched : List ℕ) → length matched ≡ length reports
    → ((i n : ℕ) → slice_get matched i ≡ Some n → n ≡ 0) → AreMatched reports matched []
are_matched_none reports matched count none = record {
  count = count;
  each = λ i report n at there whole. rw (none i n there) (matches_none report.write_failed report.written.items);
}

-- an answer more, whose frame one line has
pub are_matched_more : (reports : List LineReport) (matched : List ℕ) (said : List Saying) (s place from behind : ℕ) (answer : Reply) (report : LineReport) (frame : List ℕ)
    → s ≡ place + 1 → slice_get reports place ≡ Some report → slice_get matched place ≡ Some from → frame ≡ framed answer
    → ((all : List ℕ) → report.is_whole ≡ true → Matches report.write_failed report.written.items all from → Matches report.write_failed report.written.items (all ++ frame) behind)
    → AreMatched reports matched said → AreMatched reports (set matched place behind) (said ++ (s, answer) ∷ [])
are_matched_more reports matched said s place from behind answer report frame session here at_from is goes h = record {
  count = length-set matched place behind ∙ h.count;
  each = λ i r n at there whole. elim (at_set matched place i behind n there) [
    | inl same ↦
        let mine : s ≡ i + 1 = omega (arith, session, same.0) in
        let it : report ≡ r = let there' : slice_get reports i ≡ Some report = ap (slice_get reports) same.0 ∙ here in cc in
        let whole' : report.is_whole ≡ true = ap (λ (x : LineReport). x.is_whole) it ∙ whole in
        let before = h.each place report from here at_from whole' in
        let now = goes (frames (answers_to (place + 1) said)) whole' before in
        rw (frames_mine (i + 1) s answer said mine, ← it, same.1, ← is, same.0) now
    | inr other ↦
        let apart : eqb s (i + 1) ≡ false = ne_eqb s (i + 1) (λ same. other.0 (omega (arith, session, same))) in
        rw (frames_other (i + 1) s answer said apart) (h.each i r n at other.1 whole)
  ];
}

-- all that was written is matched
pub is_written : (s : ℕ) (said : List Saying) (report : LineReport) (n : ℕ)
    → Matches report.write_failed report.written.items (frames (answers_to s said)) n → n ≡ length report.written.items → IsWritten s said report
is_written s said report n h all =
    let none : h.unmatched ≡ [] = nil_from_length h.unmatched (omega (arith, all, h.count, ap length h.written_is, length-append h.front h.unmatched)) in
    let front : report.written.items ≡ h.front = h.written_is ∙ ap (λ xs. h.front ++ xs) none ∙ append-nil h.front in
    record {
      begins = (h.missing, ap (λ xs. xs ++ h.missing) front ∙ sym h.all_is);
      all_written = λ sound. elim h.ended [
        | inl whole ↦ front ∙ sym (append-nil h.front) ∙ ap (λ xs. h.front ++ xs) (sym whole) ∙ sym h.all_is
        | inr broken ↦ absurd (cc (sound, broken.1))
      ];
    }

-- ---- where something differs

behind : (failed : Bool) (written all : List ℕ) (n : ℕ) (h : Matches failed written all n) → drop n written ≡ h.unmatched
behind failed written all n h = rw h.written_is (drop_at h.front h.unmatched n (sym h.count))

-- no more is matched than was written
pub matched_most : (failed : Bool) (written all : List ℕ) (n : ℕ) → Matches failed written all n → n ≤ length written
matched_most failed written all n h =
    let counts : length written ≡ length h.front + length h.unmatched = ap length h.written_is ∙ length-append h.front h.unmatched in
    omega (arith, h.count, counts)

-- the bytes behind those that are matched are those of the next frame, as far as both go
pub same_next : (failed : Bool) (written all frame more : List ℕ) (n k : ℕ)
    → Matches failed written all n → AreBytesOf failed written (all ++ (frame ++ more)) → k ≤ length frame → k ≤ length (drop n written) → take k (drop n written) ≡ take k frame
same_next failed written all frame more n k h w within written_in =
    let rest : drop n written ≡ h.unmatched = behind failed written all n h in
    let k_in : k ≤ length h.unmatched = omega (arith, written_in, ap length rest) in
    elim h.ended [
      | inl none ↦ (
          let is : all ≡ h.front = h.all_is ∙ ap (λ xs. h.front ++ xs) none ∙ append-nil h.front in
          let both : h.front ++ (h.unmatched ++ w.begins.0) ≡ h.front ++ (frame ++ more) =
          sym (append_assoc h.front h.unmatched w.begins.0) ∙ ap (λ xs. xs ++ w.begins.0) (sym h.written_is) ∙ w.begins.1 ∙ ap (λ xs. xs ++ (frame ++ more)) is in
          let tails : h.unmatched ++ w.begins.0 ≡ frame ++ more = append_cancel_left h.front (h.unmatched ++ w.begins.0) (frame ++ more) both in
          ap (take k) rest ∙ sym (take-append-le k h.unmatched w.begins.0 k_in) ∙ ap (take k) tails ∙ take-append-le k frame more within)
      | inr broken ↦ (
          let zero' : k ≡ 0 = omega (arith, k_in, ap length broken.0) in
          rw zero' refl)
    ]

-- where no write failed, the frame was written whole
pub whole_next : (failed : Bool) (written all frame more : List ℕ) (n : ℕ)
    → failed ≡ false → Matches failed written all n → AreBytesOf failed written (all ++ (frame ++ more)) → length frame ≤ length (drop n written)
whole_next failed written all frame more n sound h w =
    elim h.ended [
      | inl none ↦ (
          let is : all ≡ h.front = h.all_is ∙ ap (λ xs. h.front ++ xs) none ∙ append-nil h.front in
          let both : h.front ++ h.unmatched ≡ h.front ++ (frame ++ more) = sym h.written_is ∙ w.all_written sound ∙ ap (λ xs. xs ++ (frame ++ more)) is in
          let tails : h.unmatched ≡ frame ++ more = append_cancel_left h.front h.unmatched (frame ++ more) both in
          omega (arith, ap length tails, length-append frame more, ap length (behind failed written all n h)))
      | inr broken ↦ absurd (cc (sound, broken.1))
    ]

-- all that was written is matched by all frames
pub all_matched : (failed : Bool) (written all : List ℕ) (n : ℕ) → Matches failed written all n → AreBytesOf failed written all → n ≡ length written
all_matched failed written all n h w =
    let counts : length written ≡ length h.front + length h.unmatched = ap length h.written_is ∙ length-append h.front h.unmatched in
    elim h.ended [
      | inl none ↦ (
          let is : all ≡ h.front = h.all_is ∙ ap (λ xs. h.front ++ xs) none ∙ append-nil h.front in
          omega (arith, h.count, counts, ap length w.begins.1, length-append written w.begins.0, ap length is))
      | inr broken ↦ omega (arith, h.count, counts, ap length broken.0)
    ]

-- what is said to a session next is the next frame
pub frames_next : (s : ℕ) (answer : Reply) (said more : List Saying)
    → frames (answers_to s (said ++ (s, answer) ∷ more)) ≡ frames (answers_to s said) ++ (framed answer ++ frames (answers_to s more))
frames_next s answer said more =
    frames_to-append s said ((s, answer) ∷ more) ∙ ap (λ xs. frames (answers_to s said) ++ xs) (rw (eq-eqb s s refl) refl)

-- what its line was written goes on with that frame
pub written_next : (s place : ℕ) (answer : Reply) (said more : List Saying) (reports : List LineReport) (report : LineReport) (frame : List ℕ)
    → s ≡ place + 1 → slice_get reports place ≡ Some report → report.is_whole ≡ true → frame ≡ framed answer → AreWritten reports (said ++ (s, answer) ∷ more)
    → AreBytesOf report.write_failed report.written.items (frames (answers_to (place + 1) said) ++ (frame ++ frames (answers_to (place + 1) more)))
written_next s place answer said more reports report frame session here whole is h =
    let w = h place report here whole in
    subst (λ (bytes : List ℕ). AreBytesOf report.write_failed report.written.items bytes)
    (ap (λ t. frames (answers_to (place + 1) (said ++ (t, answer) ∷ more))) session ∙ frames_next (place + 1) answer said more
    ∙ ap (λ f. frames (answers_to (place + 1) said) ++ (f ++ frames (answers_to (place + 1) more))) (sym is)) w

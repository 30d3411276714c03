-- What waits is handed out and sent, one session after another.
use Rattle.std.proofs.Common.{◌≡◌, ℕ, ◌<◌, true, List, [], ◌∷◌, ◌++◌, length, take, refl, ap, sym, ◌∙◌, arith, append_assoc, Option, Some, None}
use Rattle.std.specs.Prelude.{map, flat_map, find, nat_lt, option_map}
use Rattle.std.proofs.lemmas.Grind.{flat_map-append}
use Rattle.std.proofs.lemmas.List.{append-nil, take_all, length-take}
use Rattle.std.proofs.lemmas.Bool.{and_parts, ne_eqb, eq-eqb}
use Rattle.jsp_reply.specs.declared.reply.Reply.{Reply}
use Rattle.jsp_model.specs.declared.state.State.{State}
use Rattle.jsp_model.specs.declared.state.Outbox.{Outbox}
use Rattle.jsp_model.specs.declared.step.Step.{Step}
use Rattle.jsp_model.specs.declared.step.Step.TheVariants as step
use Rattle.jsp_model.specs.Outboxes.{hand_out, outbox_of}
use Rattle.jsp_model.specs.Runs.{state_after, said_to}
use Rattle.jsp_model.specs.Touches.{touches}
use Rattle.jsp_model.specs.House.{Makes, touched, handed_out, next_waiting}
use Rattle.jsp_model.specs.Limits.{are_outboxes}
use Rattle.jsp_model.proofs.Joining.{Makes-none, Makes-then, said_to-append, to_session}
use Rattle.jsp_model.proofs.Outboxes.{answers_in, are_above, rising_of, hand_out_first, hand_out_step, hand_out_silent}
use Rattle.jsp_drive.specs.declared.acts.Sent.{Sent}
use Rattle.jsp_drive.specs.Tie.{frame_for, asked_in}
use Rattle.jsp_drive.specs.Calls.{frames_sent, Sends}
use Rattle.jsp_drive.proofs.Asking.{asked_in-append}
use Rattle.jsp_drive.proofs.Quieting.{touched-append}

-- so far these boxes were handed out
pub record Sending (n : ℕ) (old now : State) (log log' : List Step) (sent sent' : List Sent) : Type 0 where
  pub done : List Outbox
  pub boxes : old.outboxes ≡ done ++ now.outboxes
  pub rising : are_outboxes now.outboxes ≡ true
  pub from_one : are_above 0 now.outboxes ≡ true
  pub steps : List Step
  pub makes : Makes old now log log' steps
  pub nothing_asked : asked_in steps ≡ []
  pub silent : (s : ℕ) → said_to s old steps ≡ []
  pub untouched : touched old steps ≡ []
  pub now_is : now ≡ record old { outboxes = now.outboxes }
  pub sent_is : sent' ≡ sent ++ flat_map (frames_sent n) done

pub sending_start : (n : ℕ) (st : State) (log : List Step) (sent : List Sent) → are_outboxes st.outboxes ≡ true → are_above 0 st.outboxes ≡ true
    → Sending n st st log log sent sent
sending_start n st log sent h above = record {
  done = [];
  boxes = refl;
  rising = h;
  from_one = above;
  steps = [];
  makes = Makes-none st log;
  nothing_asked = refl;
  silent = λ s. refl;
  untouched = refl;
  now_is = refl;
  sent_is = sym (append-nil sent);
}

-- ---- the first box is handed out

-- a list of which fewer than so many were taken was taken whole
taken_all : {A : Type 0} (most : ℕ) (xs ys : List A) → ys ≡ take most xs → length ys < most → ys ≡ xs
taken_all most xs ys h lt = h ∙ take_all most xs (omega (arith, ap length h, length-take most xs))

one_step : (n s : ℕ) → 0 < n → handed_out s n ≡ step.HandOut s n ∷ []
one_step n s some = rw (ne_eqb n 0 (λ e. omega arith)) refl

record HandsOut (b : Outbox) (boxes : List Outbox) (mid now : State) (steps : List Step) (answers : List Reply) : Type 0 where
  all : answers ≡ b.answers
  now_is : now ≡ record mid { outboxes = boxes }
  nothing_asked : asked_in steps ≡ []
  silent : (t : ℕ) → said_to t mid steps ≡ []
  untouched : touched mid steps ≡ []

-- to hand out touches nothing
hand_touches : (st : State) (s n : ℕ) → touches st (step.HandOut s n) ≡ []
unfolding touches
hand_touches st s n = refl

hands_out : (s most : ℕ) (b : Outbox) (boxes : List Outbox) (mid now : State) (answers : List Reply)
    → mid.outboxes ≡ b ∷ boxes → are_outboxes (b ∷ boxes) ≡ true → b.session ≡ s
    → answers ≡ take most (outbox_of mid s) → length answers < most
    → state_after mid (handed_out s (length answers)) ≡ now
    → HandsOut b boxes mid now (handed_out s (length answers)) answers
hands_out s most b boxes mid now answers first rising own is short view =
    let in_box : outbox_of mid s ≡ b.answers = ap (λ w. answers_in w s) first ∙ rw (eq-eqb b.session s own) refl in
    let all : answers ≡ b.answers = taken_all most (outbox_of mid s) answers is short ∙ in_box in
    let n = length answers in
    let some : 0 < n = omega (arith, ap length all, (rising_of b boxes rising).full) in
    let one = one_step n s some in
    let left : hand_out s n mid.outboxes ≡ boxes =
    ap (hand_out s n) first ∙ ap (λ k. hand_out k n (b ∷ boxes)) (sym own) ∙ hand_out_first n b boxes (ap length all) rising in
    record {
      all = all;
      now_is = sym view ∙ ap (state_after mid) one ∙ hand_out_step mid s n ∙ ap (λ (w : List Outbox). record mid { outboxes = w }) left;
      nothing_asked = ap asked_in one;
      silent = λ t. ap (said_to t mid) one ∙ ap (λ w. to_session t (w ++ [])) (hand_out_silent mid s n);
      untouched = ap (touched mid) one ∙ ap (λ w. w ++ []) (hand_touches mid s n);
    }

-- the first box of a session above 0
abbrev next_box : List Outbox → Option ℕ
next_box boxes = option_map (λ (b : Outbox). b.session) (find (λ (b : Outbox). nat_lt 0 b.session) boxes)

next_first : (b : Outbox) (boxes : List Outbox) → are_above 0 (b ∷ boxes) ≡ true → next_box (b ∷ boxes) ≡ Some b.session
next_first b boxes above = rw (and_parts (nat_lt 0 b.session) (are_above 0 boxes) above).0 refl

first_is : (boxes : List Outbox) (s : ℕ) → are_above 0 boxes ≡ true → next_box boxes ≡ Some s → (b : Outbox) × (rest : List Outbox) × (boxes ≡ b ∷ rest) × (b.session ≡ s)
first_is [] s above h = cc (h)
first_is (b ∷ boxes) s above h = let same : Some b.session ≡ Some s = sym (next_first b boxes above) ∙ h in (b, boxes, refl, cc (same))

pub sending_more : (n s most : ℕ) (old mid now : State) (log log' log'' : List Step) (sent sent' sent'' : List Sent) (answers : List Reply)
    → Sending n old mid log log' sent sent' → next_waiting mid 0 ≡ Some s
    → answers ≡ take most (outbox_of mid s) → length answers < most → Makes mid now log' log'' (handed_out s (length answers))
    → sent'' ≡ sent' ++ map (frame_for n s) answers
    → Sending n old now log log'' sent sent'' × (length now.outboxes < length mid.outboxes)
sending_more n s most old mid now log log' log'' sent sent' sent'' answers h waits is short makes appended =
    let first = first_is mid.outboxes s h.from_one waits in
    let b = first.0 in
    let boxes = first.1 in
    let steps = handed_out s (length answers) in
    let rising : are_outboxes (b ∷ boxes) ≡ true = ap are_outboxes (sym first.2) ∙ h.rising in
    let hand = hands_out s most b boxes mid now answers first.2 rising first.3 is short makes.view in
    let left : now.outboxes ≡ boxes = ap (λ (w : State). w.outboxes) hand.now_is in
    let frames : map (frame_for n s) answers ≡ frames_sent n b = ap (map (frame_for n s)) hand.all ∙ ap (λ k. map (frame_for n k) b.answers) (sym first.3) in (
      record {
        done = h.done ++ b ∷ [];
        boxes = h.boxes ∙ ap (λ w. h.done ++ w) (first.2 ∙ ap (λ w. b ∷ w) (sym left)) ∙ sym (append_assoc h.done (b ∷ []) now.outboxes);
        rising = ap are_outboxes left ∙ (rising_of b boxes rising).rest;
        from_one = ap (are_above 0) left ∙ (and_parts (nat_lt 0 b.session) (are_above 0 boxes) (ap (are_above 0) (sym first.2) ∙ h.from_one)).1;
        steps = h.steps ++ steps;
        makes = Makes-then old mid now log log' log'' h.steps steps h.makes makes;
        nothing_asked = asked_in-append h.steps steps ∙ rw (h.nothing_asked, hand.nothing_asked) refl;
        silent = λ t. said_to-append t old h.steps steps ∙ rw (h.silent t, h.makes.view, hand.silent t) refl;
        untouched = touched-append old h.steps steps ∙ rw (h.untouched, h.makes.view, hand.untouched) refl;
        now_is = hand.now_is ∙ ap (λ (w : State). record w { outboxes = boxes }) h.now_is ∙ ap (λ (w : List Outbox). record old { outboxes = w }) (sym left);
        sent_is = appended ∙ ap (λ w. w ++ map (frame_for n s) answers) h.sent_is ∙ append_assoc sent (flat_map (frames_sent n) h.done) (map (frame_for n s) answers)
            ∙ ap (λ w. sent ++ w) (ap (λ w. flat_map (frames_sent n) h.done ++ w) (frames ∙ sym (append-nil (frames_sent n b))) ∙ sym (flat_map-append (frames_sent n) h.done (b ∷ [])));
      },
      omega (arith, ap length first.2, ap length left),
    )

-- ---- nothing waits any more

none_left : (boxes : List Outbox) → are_above 0 boxes ≡ true → next_box boxes ≡ None → boxes ≡ []
none_left [] above h = refl
none_left (b ∷ boxes) above h = let same : Some b.session ≡ None = sym (next_first b boxes above) ∙ h in cc (same)

pub sends_all : (n : ℕ) (old now : State) (log log' : List Step) (sent sent' : List Sent) → Sending n old now log log' sent sent' → next_waiting now 0 ≡ None → Sends n old now log log' sent sent'
sends_all n old now log log' sent sent' h none =
    let empty : now.outboxes ≡ [] = none_left now.outboxes h.from_one none in
    let all : h.done ≡ old.outboxes = sym (h.boxes ∙ ap (λ w. h.done ++ w) empty ∙ append-nil h.done) in
    record {
      steps = h.steps;
      makes = h.makes;
      nothing_asked = h.nothing_asked;
      silent = h.silent;
      untouched = h.untouched;
      new_is = h.now_is ∙ ap (λ (w : List Outbox). record old { outboxes = w }) empty;
      sent_is = h.sent_is ∙ ap (λ w. sent ++ flat_map (frames_sent n) w) all;
    }

-- Handing answers out at the place of their session's outbox.
use Rattle.std.proofs.Common.{◌≡◌, ℕ, zero, suc, ◌<◌, Bool, true, false, nat_lt, nat_le, eqb, List, [], ◌∷◌, length, take, drop, Option, Some, None, refl, ap, sym, ◌∙◌, subst, arith, length-drop}
use Rattle.std.specs.Prelude.{cond, position, slice_get, slice_set, remove}
use Rattle.std.specs.List.{position_or_len}
use Rattle.std.specs.Option.{option_map_or}
use Rattle.std.proofs.lemmas.Bool.{eqb-true, ne_eqb, ltb-true, lt-ltb, and_parts}
use Rattle.std.proofs.lemmas.Bool.Decides.{nat_tests}
use Rattle.std.proofs.lemmas.List.Folds.{find_at}
use Rattle.std.proofs.lemmas.List.Quantifiers.{position-Some}
use Rattle.std.proofs.lemmas.Option.{slice_get-get_or}
use Rattle.jsp_reply.specs.declared.reply.Reply.{Reply}
use Rattle.jsp_model.specs.declared.state.Outbox.{Outbox}
use Rattle.jsp_model.specs.Outboxes.{hand_out}
use Rattle.jsp_model.specs.Limits.{are_outboxes}
use Rattle.jsp_model.proofs.Outboxes.{are_above, rising_of}
use Rattle.jsp_outbox.specs.Outboxes.{answers_in, answers_at, answers_for, later_answers, without_first_of, without_first}
use Rattle.jsp_outbox.proofs.Order.{box_at}
use Rattle.jsp_outbox.proofs.Finding.{is_mine, none_passes}

-- an outbox of another session stays
hand_past : (s n : ℕ) (b : Outbox) (boxes : List Outbox) → eqb b.session s ≡ false → 0 < length b.answers → hand_out s n (b ∷ boxes) ≡ b ∷ hand_out s n boxes
hand_past s n b boxes other full = rw other (rw (lt-ltb 0 (length b.answers) full) refl)

-- those of later sessions stay
untouched : (s n : ℕ) (boxes : List Outbox) → are_above s boxes ≡ true → are_outboxes boxes ≡ true → hand_out s n boxes ≡ boxes
untouched s n [] above h = refl
untouched s n (b ∷ boxes) above h =
    let o = rising_of b boxes h in
    let parts = and_parts (nat_lt s b.session) (are_above s boxes) above in
    let more : s < b.session = ltb-true s b.session parts.0 in
    let other : eqb b.session s ≡ false = ne_eqb b.session s (λ e. omega (arith, more)) in
    hand_past s n b boxes other o.full ∙ ap (λ w. b ∷ w) (untouched s n boxes parts.1 o.rest)

hand_here : (s n : ℕ) (b : Outbox) (boxes : List Outbox) (left : Bool) → nat_le (length b.answers) n ≡ left → eqb b.session s ≡ true → hand_out s n boxes ≡ boxes → without_first_of (b ∷ boxes) 0 n (Some b) ≡ hand_out s n (b ∷ boxes)
hand_here s n b boxes true left mine rest =
    let none : nat_lt 0 (length (drop n b.answers)) ≡ false = grind (arith, nat_tests, length-drop n b.answers) in
    rw left (rw mine (rw none (sym rest)))
hand_here s n b boxes false left mine rest =
    let some : nat_lt 0 (length (drop n b.answers)) ≡ true = grind (arith, nat_tests, length-drop n b.answers) in
    rw left (rw mine (rw some (ap (λ w. later_answers b n ∷ w) (sym rest))))

past_of : (b : Outbox) (boxes : List Outbox) (place n : ℕ) (o : Option Outbox) → without_first_of (b ∷ boxes) (suc place) n o ≡ b ∷ without_first_of boxes place n o
past_of b boxes place n None = refl
past_of b boxes place n (Some c) = elim (nat_le (length c.answers) n) as (λ w. cond w (remove (b ∷ boxes) (suc place)) (b ∷ slice_set boxes place (later_answers c n)) ≡ b ∷ cond w (remove boxes place) (slice_set boxes place (later_answers c n))) [ true ↦ refl | false ↦ refl ]

-- where the session's outbox is at that place
handed_at : (s n place : ℕ) (boxes : List Outbox) → are_outboxes boxes ≡ true → place < length boxes → eqb (box_at boxes place).session s ≡ true → ((k : ℕ) → k < place → eqb (box_at boxes k).session s ≡ false) → without_first boxes place n ≡ hand_out s n boxes
handed_at s n place [] h lt mine others = absurd (omega arith)
handed_at s n zero (b ∷ boxes) h lt mine others =
    let o = rising_of b boxes h in
    let same : b.session ≡ s = eqb-true b.session s mine in
    hand_here s n b boxes (nat_le (length b.answers) n) refl mine (untouched s n boxes (subst (λ (k : ℕ). are_above k boxes ≡ true) same o.above) o.rest)
handed_at s n (suc place) (b ∷ boxes) h lt mine others =
    let o = rising_of b boxes h in
    past_of b boxes place n (slice_get boxes place)
    ∙ (ap (λ w. b ∷ w) (handed_at s n place boxes o.rest (omega arith) mine (λ k less. others (suc k) (omega arith))) ∙ sym (hand_past s n b boxes (others 0 (omega arith)) o.full))

-- at the place that is found
pub handed : (s n place : ℕ) (boxes : List Outbox) → are_outboxes boxes ≡ true → position (is_mine s) boxes ≡ Some place → without_first boxes place n ≡ hand_out s n boxes
handed s n place boxes h is =
    let found = position-Some (is_mine s) boxes place (record { session = 0; answers = [] }) is in
    handed_at s n place boxes h found.0 found.1 found.2

pub found_at : (s i : ℕ) (boxes : List Outbox) → position (is_mine s) boxes ≡ Some i → i < length boxes
found_at s i boxes h = (position-Some (is_mine s) boxes i (record { session = 0; answers = [] }) h).0

place_is : {A : Type 0} (p : A → Bool) (xs : List A) (place : ℕ) (b : Bool) → nat_lt (position_or_len p xs) (length xs) ≡ b → cond b (Some (position_or_len p xs)) None ≡ Some place → position_or_len p xs ≡ place
place_is p xs place true is h = cc (h)
place_is p xs place false is h = cc (h)

-- the answers there are the session's
pub answers_are : (boxes : List Outbox) (s place : ℕ) → position (is_mine s) boxes ≡ Some place → answers_at boxes place ≡ answers_for s boxes
answers_are boxes s place is =
    let at = place_is (is_mine s) boxes place (nat_lt (position_or_len (is_mine s) boxes) (length boxes)) refl is in
    sym (ap (λ o. option_map_or (λ (b : Outbox). b.answers) o []) (find_at (is_mine s) boxes ∙ ap (slice_get boxes) at) ∙ of_option (slice_get boxes place))
  where
    of_option : (o : Option Outbox) → option_map_or (λ (b : Outbox). b.answers) o [] ≡ answers_in o
    of_option None = refl
    of_option (Some b) = refl

hand_none : (s n : ℕ) (boxes : List Outbox) → ((k : ℕ) → k < length boxes → is_mine s (box_at boxes k) ≡ false) → are_outboxes boxes ≡ true → (boxes ≡ hand_out s n boxes) × (answers_for s boxes ≡ [])
hand_none s n [] h o = (refl, refl)
hand_none s n (b ∷ boxes) h o =
    let order = rising_of b boxes o in
    let other : eqb b.session s ≡ false = h 0 (omega arith) in
    let rest = hand_none s n boxes (λ k lt. h (suc k) (omega (arith, lt))) order.rest in
    (sym (hand_past s n b boxes other order.full ∙ ap (λ w. b ∷ w) (sym rest.0)), rw other rest.1)

-- no outbox, no answers, and nothing changes
pub handed_none : (boxes : List Outbox) (s n : ℕ) → are_outboxes boxes ≡ true → position (is_mine s) boxes ≡ None → (boxes ≡ hand_out s n boxes) × (answers_for s boxes ≡ [])
handed_none boxes s n h is = hand_none s n boxes (none_passes (is_mine s) boxes (record { session = 0; answers = [] }) is) h

take_nothing : (n : ℕ) (xs : List Reply) → xs ≡ [] → take n xs ≡ []
take_nothing zero xs e = refl
take_nothing (suc n) xs e = rw e refl

pub take_none : (n : ℕ) (v xs : List Reply) → v ≡ [] → xs ≡ [] → v ≡ take n xs
take_none n v xs p q = p ∙ sym (take_nothing n xs q)

-- how many wait is the length of the outbox at the place
pub waiting_at : (boxes : List Outbox) (s place : ℕ) (b : Outbox) → position (is_mine s) boxes ≡ Some place → place < length boxes → b ≡ box_at boxes place → length b.answers ≡ length (answers_for s boxes)
waiting_at boxes s place b is lt there =
    ap (λ (c : Outbox). length c.answers) there ∙ (ap (λ o. length (answers_in o)) (sym (slice_get-get_or boxes place _ lt)) ∙ ap length (answers_are boxes s place is))

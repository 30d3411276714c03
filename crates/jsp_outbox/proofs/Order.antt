-- Outboxes stay in order, and none is empty.
use Rattle.std.proofs.Common.{◌≡◌, ℕ, zero, suc, ◌<◌, ◌≤◌, true, nat_lt, List, [], ◌∷◌, length, get_or, set, refl, ap, ◌∙◌, arith}
use Rattle.std.specs.Prelude.{◌&&◌, remove}
use Rattle.std.proofs.lemmas.Bool.{and_parts, and_from, ltb-true, lt-ltb}
use Rattle.jsp_model.specs.declared.state.Outbox.{Outbox}
use Rattle.jsp_model.specs.Limits.{are_outboxes}
use Rattle.jsp_model.proofs.Outboxes.{are_above, rising_of}

abbrev pub box_at : List Outbox → ℕ → Outbox
box_at boxes i = get_or boxes i (record { session = 0; answers = [] })

to_rising : (b : Outbox) (boxes : List Outbox) → 0 < length b.answers → are_above b.session boxes ≡ true → are_outboxes boxes ≡ true → are_outboxes (b ∷ boxes) ≡ true
to_rising b boxes full above rest =
    and_from (nat_lt 0 (length b.answers) && are_above b.session boxes) (are_outboxes boxes)
    (and_from (nat_lt 0 (length b.answers)) (are_above b.session boxes) (lt-ltb 0 (length b.answers) full) above) rest

-- ---- sessions rise

above_at : (low : ℕ) (boxes : List Outbox) (i : ℕ) (d : Outbox) → are_above low boxes ≡ true → i < length boxes → low < (get_or boxes i d).session
above_at low [] i d h lt = absurd (omega arith)
above_at low (b ∷ boxes) zero d h lt = ltb-true low b.session (and_parts (nat_lt low b.session) (are_above low boxes) h).0
above_at low (b ∷ boxes) (suc i) d h lt = above_at low boxes i d (and_parts (nat_lt low b.session) (are_above low boxes) h).1 (omega arith)

pub sessions_rise : (boxes : List Outbox) → are_outboxes boxes ≡ true → (i j : ℕ) (d : Outbox) → i ≤ j → j < length boxes → (get_or boxes i d).session ≤ (get_or boxes j d).session
sessions_rise [] h i j d le lt = absurd (omega arith)
sessions_rise (b ∷ boxes) h zero zero d le lt = omega arith
sessions_rise (b ∷ boxes) h zero (suc j) d le lt =
    let more = above_at b.session boxes j d (rising_of b boxes h).above (omega arith) in
    omega (arith, more)
sessions_rise (b ∷ boxes) h (suc i) zero d le lt = absurd (omega arith)
sessions_rise (b ∷ boxes) h (suc i) (suc j) d le lt = sessions_rise boxes (rising_of b boxes h).rest i j d (omega arith) (omega arith)

-- ---- an outbox goes

above_removed : (low : ℕ) (boxes : List Outbox) (i : ℕ) → are_above low boxes ≡ true → are_above low (remove boxes i) ≡ true
above_removed low [] zero h = refl
above_removed low [] (suc i) h = refl
above_removed low (b ∷ boxes) zero h = (and_parts (nat_lt low b.session) (are_above low boxes) h).1
above_removed low (b ∷ boxes) (suc i) h =
    let parts = and_parts (nat_lt low b.session) (are_above low boxes) h in
    and_from (nat_lt low b.session) (are_above low (remove boxes i)) parts.0 (above_removed low boxes i parts.1)

pub rising_removed : (boxes : List Outbox) (i : ℕ) → are_outboxes boxes ≡ true → are_outboxes (remove boxes i) ≡ true
rising_removed [] zero h = refl
rising_removed [] (suc i) h = refl
rising_removed (b ∷ boxes) zero h = (rising_of b boxes h).rest
rising_removed (b ∷ boxes) (suc i) h =
    let parts = rising_of b boxes h in
    to_rising b (remove boxes i) parts.full (above_removed b.session boxes i parts.above) (rising_removed boxes i parts.rest)

-- ---- the answers of an outbox change

above_set : (low : ℕ) (boxes : List Outbox) (i : ℕ) (c : Outbox) → low < c.session → are_above low boxes ≡ true → are_above low (set boxes i c) ≡ true
above_set low [] i c lt h = refl
above_set low (b ∷ boxes) zero c lt h =
    and_from (nat_lt low c.session) (are_above low boxes) (lt-ltb low c.session lt) (and_parts (nat_lt low b.session) (are_above low boxes) h).1
above_set low (b ∷ boxes) (suc i) c lt h =
    let parts = and_parts (nat_lt low b.session) (are_above low boxes) h in
    and_from (nat_lt low b.session) (are_above low (set boxes i c)) parts.0 (above_set low boxes i c lt parts.1)

pub rising_set : (boxes : List Outbox) (i : ℕ) (c : Outbox) → are_outboxes boxes ≡ true → i < length boxes → c.session ≡ (box_at boxes i).session → 0 < length c.answers → are_outboxes (set boxes i c) ≡ true
rising_set [] i c h lt same full = absurd (omega arith)
rising_set (b ∷ boxes) zero c h lt same full =
    let parts = rising_of b boxes h in
    to_rising c boxes full (ap (λ s. are_above s boxes) same ∙ parts.above) parts.rest
rising_set (b ∷ boxes) (suc i) c h lt same full =
    let parts = rising_of b boxes h in
    let above : b.session < c.session = omega (arith, above_at b.session boxes i (record { session = 0; answers = [] }) parts.above (omega arith), same) in
    to_rising b (set boxes i c) parts.full (above_set b.session boxes i c above parts.above) (rising_set boxes i c parts.rest (omega arith) same full)

-- Finding the outbox of a session among those whose sessions rise.
use Rattle.std.proofs.Common.{◌≡◌, ◌≢◌, ℕ, ◌<◌, ◌≤◌, Bool, true, false, cond, nat_lt, nat_le, eqb, ltb, leb, List, [], length, get_or, Some, None, refl, ap, sym, ◌∙◌, arith}
use Rattle.std.specs.Prelude.{◌==◌, position, find, slice_get, option_map}
use Rattle.std.specs.List.{position_or_len}
use Rattle.std.specs.List.Sorted.{IsPartitionPoint}
use Rattle.std.proofs.lemmas.Bool.{lt-ltb, le-ltb, ltb-true, ltb-false, lt-leb, le-leb, ne_eqb, eq-eqb, leb-true, leb-false}
use Rattle.std.proofs.lemmas.List.Sums.{position_or_len_is, fails_before_first}
use Rattle.std.proofs.lemmas.List.Folds.{find_at}
use Rattle.std.proofs.lemmas.List.Quantifiers.{position-Some}
use Rattle.std.proofs.lemmas.Option.{slice_get-get_or, slice_get_past}
use Rattle.jsp_model.specs.declared.state.Outbox.{Outbox}
use Rattle.jsp_model.specs.Limits.{are_outboxes}
use Rattle.jsp_outbox.proofs.Order.{box_at, sessions_rise}

-- ---- finding, in general

place_if : {X : Type 0} (p : X → Bool) (xs : List X) (b : Bool) → nat_lt (position_or_len p xs) (length xs) ≡ b → cond b (Some (position_or_len p xs)) None ≡ None → length xs ≤ position_or_len p xs
place_if p xs true is h = absurd (cc (h))
place_if p xs false is h = ltb-false (position_or_len p xs) (length xs) is

pub none_passes : {X : Type 0} (p : X → Bool) (xs : List X) (d : X) → position p xs ≡ None → (k : ℕ) → k < length xs → p (get_or xs k d) ≡ false
none_passes p xs d h k lt =
    let le = place_if p xs (nat_lt (position_or_len p xs) (length xs)) refl h in
    fails_before_first p xs k d (omega (arith, le, lt))

-- the first that passes is at this place
pub found_first : {X : Type 0} (p : X → Bool) (xs : List X) (i : ℕ) (d : X) → i < length xs → ((k : ℕ) → k < i → p (get_or xs k d) ≡ false) → p (get_or xs i d) ≡ true → Some i ≡ position p xs
found_first p xs i d lt below at =
    let is = position_or_len_is p xs i d (omega (arith, lt)) below (λ _. at) in
    rw is (rw (lt-ltb i (length xs) lt) refl)

-- none passes
pub found_none : {X : Type 0} (p : X → Bool) (xs : List X) (d : X) → ((k : ℕ) → k < length xs → p (get_or xs k d) ≡ false) → None ≡ position p xs
found_none p xs d below =
    let is = position_or_len_is p xs (length xs) d (omega arith) below (λ lt. absurd (omega (arith, lt))) in
    rw is (rw (le-ltb (length xs) (length xs) (omega arith)) refl)

-- what is found first, as an element
pub find_first : {X Y : Type 0} (f : X → Y) (p : X → Bool) (xs : List X) (i : ℕ) (d : X) → i < length xs → ((k : ℕ) → k < i → p (get_or xs k d) ≡ false) → p (get_or xs i d) ≡ true
    → Some (f (get_or xs i d)) ≡ option_map f (find p xs)
find_first f p xs i d lt below at =
    let is = position_or_len_is p xs i d (omega (arith, lt)) below (λ _. at) in
    sym (ap (option_map f) (find_at p xs ∙ ap (slice_get xs) is ∙ slice_get-get_or xs i d lt))

pub find_none : {X Y : Type 0} (f : X → Y) (p : X → Bool) (xs : List X) (d : X) → ((k : ℕ) → k < length xs → p (get_or xs k d) ≡ false) → None ≡ option_map f (find p xs)
find_none f p xs d below =
    let is = position_or_len_is p xs (length xs) d (omega arith) below (λ lt. absurd (omega (arith, lt))) in
    sym (ap (option_map f) (find_at p xs ∙ ap (slice_get xs) is ∙ slice_get_past xs (length xs) (omega arith)))

-- ---- the first outbox of a session or a later one

below_from : (s t : ℕ) → ltb t s ≡ true → nat_le s t ≡ false
below_from s t h = lt-leb s t (ltb-true t s h)

above_from : (s t : ℕ) → ltb t s ≡ false → nat_le s t ≡ true
above_from s t h = le-leb s t (ltb-false t s h)

upto_from : (s t : ℕ) → leb t s ≡ true → nat_lt s t ≡ false
upto_from s t h = le-ltb s t (leb-true t s h)

over_from : (s t : ℕ) → leb t s ≡ false → nat_lt s t ≡ true
over_from s t h = lt-ltb s t (leb-false t s h)

-- the outboxes before this place are of lesser sessions
abbrev pub AreBelow : ℕ → List Outbox → ℕ → Type 0
AreBelow s boxes i = (k : ℕ) → k < i → nat_le s (box_at boxes k).session ≡ false

pub all_below : (s : ℕ) (boxes : List Outbox) → position (λ (b : Outbox). nat_le s b.session) boxes ≡ None → AreBelow s boxes (length boxes)
all_below s boxes h = none_passes (λ (b : Outbox). nat_le s b.session) boxes _ h

pub found_place : (s i : ℕ) (boxes : List Outbox) → position (λ (b : Outbox). nat_le s b.session) boxes ≡ Some i → (i < length boxes) × (nat_le s (box_at boxes i).session ≡ true) × AreBelow s boxes i
found_place s i boxes h = position-Some (λ (b : Outbox). nat_le s b.session) boxes i _ h

-- a binary search finds it: those before this place are of lesser sessions, and the others aren't
pub searched_from : (s i : ℕ) (boxes : List Outbox) → IsPartitionPoint (λ (b : Outbox). ltb b.session s ≡ true) (λ (b : Outbox). ltb b.session s ≡ false) boxes i → i < length boxes → Some i ≡ position (λ (b : Outbox). nat_le s b.session) boxes
searched_from s i boxes point lt =
    let d : Outbox = record { session = 0; answers = [] } in
    found_first (λ (b : Outbox). nat_le s b.session) boxes i d lt (λ k less. below_from s (get_or boxes k d).session (point.0 k d (omega arith) less)) (above_from s (get_or boxes i d).session (point.1 i d (omega arith) lt))

pub searched_none : (s i : ℕ) (boxes : List Outbox) → IsPartitionPoint (λ (b : Outbox). ltb b.session s ≡ true) (λ (b : Outbox). ltb b.session s ≡ false) boxes i → length boxes ≤ i → None ≡ position (λ (b : Outbox). nat_le s b.session) boxes
searched_none s i boxes point le =
    let d : Outbox = record { session = 0; answers = [] } in
    found_none (λ (b : Outbox). nat_le s b.session) boxes d (λ k less. below_from s (get_or boxes k d).session (point.0 k d (omega arith) (omega (arith, less, le))))

-- ---- the first outbox of a later session

pub next_from : (s i : ℕ) (boxes : List Outbox) (b : Outbox) → IsPartitionPoint (λ (b : Outbox). leb b.session s ≡ true) (λ (b : Outbox). leb b.session s ≡ false) boxes i → i < length boxes → b ≡ get_or boxes i b → Some b.session ≡ option_map (λ (b : Outbox). b.session) (find (λ (b : Outbox). nat_lt s b.session) boxes)
next_from s i boxes b point lt is =
    ap (λ (c : Outbox). Some c.session) is
    ∙ find_first (λ (b : Outbox). b.session) (λ (b : Outbox). nat_lt s b.session) boxes i b lt (λ k less. upto_from s (get_or boxes k b).session (point.0 k b (omega arith) less)) (over_from s (get_or boxes i b).session (point.1 i b (omega arith) lt))

pub next_none : (s i : ℕ) (boxes : List Outbox) → IsPartitionPoint (λ (b : Outbox). leb b.session s ≡ true) (λ (b : Outbox). leb b.session s ≡ false) boxes i → length boxes ≤ i → None ≡ option_map (λ (b : Outbox). b.session) (find (λ (b : Outbox). nat_lt s b.session) boxes)
next_none s i boxes point le =
    let d : Outbox = record { session = 0; answers = [] } in
    find_none (λ (b : Outbox). b.session) (λ (b : Outbox). nat_lt s b.session) boxes d (λ k less. upto_from s (get_or boxes k d).session (point.0 k d (omega arith) (omega (arith, less, le))))

-- ---- the session's own outbox

abbrev pub is_mine : ℕ → Outbox → Bool
is_mine s b = b.session == s

below_other : (s t : ℕ) → nat_le s t ≡ false → eqb t s ≡ false
below_other s t h = let lt = leb-false s t h in ne_eqb t s (λ e. omega (arith, lt))

-- no lesser session is the one that is looked for
pub mine_none : (s : ℕ) (boxes : List Outbox) → None ≡ position (λ (b : Outbox). nat_le s b.session) boxes → None ≡ position (is_mine s) boxes
mine_none s boxes h =
    let below = all_below s boxes (sym h) in
    found_none (is_mine s) boxes (record { session = 0; answers = [] }) (λ k lt. below_other s (box_at boxes k).session (below k lt))

pub mine_found : (s i : ℕ) (boxes : List Outbox) → Some i ≡ position (λ (b : Outbox). nat_le s b.session) boxes → (box_at boxes i).session ≡ s → Some i ≡ position (is_mine s) boxes
mine_found s i boxes h same =
    let found = found_place s i boxes (sym h) in
    found_first (is_mine s) boxes i (record { session = 0; answers = [] }) found.0 (λ k lt. below_other s (box_at boxes k).session (found.2 k lt)) (eq-eqb (box_at boxes i).session s same)

-- from that place on the sessions are later ones
later_other : (s i : ℕ) (boxes : List Outbox) → are_outboxes boxes ≡ true → i < length boxes → nat_le s (box_at boxes i).session ≡ true → (box_at boxes i).session ≢ s → (k : ℕ) → k < length boxes → i ≤ k → eqb (box_at boxes k).session s ≡ false
later_other s i boxes h lt from other k less le =
    let more = sessions_rise boxes h i k (record { session = 0; answers = [] }) le less in
    let least = leb-true s (box_at boxes i).session from in
    ne_eqb (box_at boxes k).session s (λ e. absurd (omega (arith, more, least, other, e)))

pub mine_other : (s i : ℕ) (boxes : List Outbox) → are_outboxes boxes ≡ true → Some i ≡ position (λ (b : Outbox). nat_le s b.session) boxes → (box_at boxes i).session ≢ s → None ≡ position (is_mine s) boxes
mine_other s i boxes h is other =
    let found = found_place s i boxes (sym is) in
    found_none (is_mine s) boxes (record { session = 0; answers = [] }) (λ k lt. go k lt (nat_le i k) refl)
  where
    go : (k : ℕ) → k < length boxes → (b : Bool) → nat_le i k ≡ b → eqb (box_at boxes k).session s ≡ false
    go k lt true le =
        let found = found_place s i boxes (sym is) in
        later_other s i boxes h found.0 found.1 other k lt (leb-true i k le)
    go k lt false more =
        let found = found_place s i boxes (sym is) in
        below_other s (box_at boxes k).session (found.2 k (leb-false i k more))

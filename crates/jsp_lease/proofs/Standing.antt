-- What becomes of the items when one place is emptied or filled.
use Rattle.std.proofs.Common.{◌≡◌, ◌≢◌, ℕ, zero, suc, ◌-◌, ◌<◌, ◌≤◌, Bool, true, false, not, cond, eqb, List, [], ◌∷◌, length, set, Option, Some, None, MatchResult, Result, Ok, Err, inl, inr, ◌⊎◌, refl, ap, sym, ◌∙◌, arith}
use Rattle.std.specs.Prelude.{map, filter, find, slice_index}
use Rattle.std.proofs.lemmas.Bool.{cases_eq, cases_lt, eq-eqb, ne_eqb, cases_order}
use Rattle.std.proofs.lemmas.List.{length-set}
use Rattle.std.proofs.lemmas.List.Sorted.{searched}
use Rattle.std.specs.List.Sorted.{IsBinarySearchResult}
use Rattle.std.specs.Ordering.{nat_cmp}
use Rattle.jsp_lease.specs.declared.item.Item.{Item}
use Rattle.jsp_lease.specs.Leases.{Leased, is_numbered, item_numbered, ending_at, without}
use Rattle.jsp_lease.specs.Tournament.{living, node_at}
use Rattle.jsp_lease.specs.Places.{AreKept, IsPlaceOf, StandsAt}

module _ (p : Item → Bool) where
  -- the test picks the place k alone
  abbrev Picks : List (Option Item) → ℕ → Type 0
  Picks places k = (j : ℕ) (item : Item) → node_at places j ≡ Some item → p item ≡ eqb j k

  abbrev pub PicksNone : List (Option Item) → Type 0
  PicksNone places = (j : ℕ) (item : Item) → node_at places j ≡ Some item → p item ≡ false

  after : (place : Option Item) (places : List (Option Item)) (k : ℕ) → Picks (place ∷ places) (suc k) → Picks places k
  after place places k h j item is = h (suc j) item is ∙ eqb_suc j k where
    eqb_suc : (j k : ℕ) → eqb (suc j) (suc k) ≡ eqb j k
    eqb_suc j k = elim (cases_eq j k) [
      | inl e ↦ eq-eqb (suc j) (suc k) (ap suc e) ∙ sym (eq-eqb j k e)
      | inr ne ↦ ne_eqb (suc j) (suc k) (λ e. ne (omega arith)) ∙ sym (ne_eqb j k ne)
    ]

  after_none : (place : Option Item) (places : List (Option Item)) → PicksNone (place ∷ places) → PicksNone places
  after_none place places h j item is = h (suc j) item is

  none_after : (place : Option Item) (places : List (Option Item)) → Picks (place ∷ places) zero → PicksNone places
  none_after place places h j item is = h (suc j) item is ∙ ne_eqb (suc j) zero (λ e. omega arith)

  at_first : (item : Item) (places : List (Option Item)) → Picks (Some item ∷ places) zero → p item ≡ true
  at_first item places h = h zero item refl ∙ eq-eqb zero zero refl

  not_first : (item : Item) (places : List (Option Item)) (k : ℕ) → Picks (Some item ∷ places) (suc k) → p item ≡ false
  not_first item places k h = h zero item refl ∙ ne_eqb zero (suc k) (λ e. omega arith)

  pub none_found : (places : List (Option Item)) → PicksNone places → find p (living places) ≡ None
  none_found [] h = refl
  none_found (None ∷ places) h = none_found places (after_none None places h)
  none_found (Some i ∷ places) h = rw (h zero i refl) (none_found places (after_none (Some i) places h))

  none_left : (places : List (Option Item)) → PicksNone places → filter (λ i. not (p i)) (living places) ≡ living places
  none_left [] h = refl
  none_left (None ∷ places) h = none_left places (after_none None places h)
  none_left (Some i ∷ places) h = rw (h zero i refl) (ap (λ w. i ∷ w) (none_left places (after_none (Some i) places h)))

  pub found : (places : List (Option Item)) (k : ℕ) → Picks places k → find p (living places) ≡ node_at places k
  found [] k h = refl
  found (None ∷ places) zero h = none_found places (none_after None places h)
  found (None ∷ places) (suc k) h = found places k (after None places k h)
  found (Some i ∷ places) zero h = rw (at_first i places h) refl
  found (Some i ∷ places) (suc k) h = rw (not_first i places k h) (found places k (after (Some i) places k h))

  pub emptied : (places : List (Option Item)) (k : ℕ) → Picks places k → living (set places k None) ≡ filter (λ i. not (p i)) (living places)
  emptied [] k h = refl
  emptied (None ∷ places) zero h = sym (none_left places (none_after None places h))
  emptied (None ∷ places) (suc k) h = emptied places k (after None places k h)
  emptied (Some i ∷ places) zero h = rw (at_first i places h) (sym (none_left places (none_after (Some i) places h)))
  emptied (Some i ∷ places) (suc k) h = rw (not_first i places k h) (ap (λ w. i ∷ w) (emptied places k (after (Some i) places k h)))

  module _ (f : Item → Item) where
    none_changed : (places : List (Option Item)) → PicksNone places → map (λ i. cond (p i) (f i) i) (living places) ≡ living places
    none_changed [] h = refl
    none_changed (None ∷ places) h = none_changed places (after_none None places h)
    none_changed (Some i ∷ places) h = rw (h zero i refl) (ap (λ w. i ∷ w) (none_changed places (after_none (Some i) places h)))

    pub changed : (places : List (Option Item)) (k : ℕ) (item : Item) → node_at places k ≡ Some item → Picks places k
        → living (set places k (Some (f item))) ≡ map (λ i. cond (p i) (f i) i) (living places)
    changed [] k item is h = absurd (cc)
    changed (None ∷ places) zero item is h = absurd (cc)
    changed (None ∷ places) (suc k) item is h = changed places k item is (after None places k h)
    changed (Some i ∷ places) zero item is h = rw (at_first i places h) (cong (some_same is) (sym (none_changed places (none_after (Some i) places h)))) where
      some_same : {a b : Item} → Some a ≡ Some b → b ≡ a
      some_same e = cc

      cong : {a b : Item} {xs ys : List Item} → a ≡ b → xs ≡ ys → f a ∷ xs ≡ f b ∷ ys
      cong e g = cc
    changed (Some i ∷ places) (suc k) item is h = rw (not_first i places k h) (ap (λ w. i ∷ w) (changed places k item is (after (Some i) places k h)))

-- the place of a number is the only one that has it
pub only_place : (numbers : List ℕ) (places : List (Option Item)) (number place : ℕ) → AreKept numbers places → place < length numbers → slice_index numbers place ≡ number
    → IsPlaceOf number places place
only_place numbers places number place kept lt is k item there =
    let own = kept.at_its_number k item there in
    elim (cases_order k place) [
      | inl same ↦ eq-eqb item.number number (sym own.1 ∙ (ap (λ i. slice_index numbers i) same ∙ is)) ∙ sym (eq-eqb k place same)
      | inr apart ↦ ne_eqb item.number number (differs numbers k place item.number number (sym own.1) is (elim apart [ inl less ↦ inl (kept.rising k place less lt) | inr more ↦ inr (kept.rising place k more own.0) ])) ∙ sym (ne_eqb k place (elim apart [ inl less ↦ (λ e. omega arith) | inr more ↦ (λ e. omega arith) ]))
    ] where
      differs : (numbers : List ℕ) (k place a b : ℕ) → a ≡ slice_index numbers k → slice_index numbers place ≡ b → (slice_index numbers k < slice_index numbers place) ⊎ (slice_index numbers place < slice_index numbers k) → a ≢ b
      differs numbers k place a b p q (inl less) e = omega arith
      differs numbers k place a b p q (inr more) e = omega arith

rises : (numbers : List ℕ) (places : List (Option Item)) → AreKept numbers places → (i j : ℕ) → i ≤ j → j < length numbers → slice_index numbers i ≤ slice_index numbers j
rises numbers places kept i j le lt = elim (cases_eq i j) [
  | inl e ↦ same_le (ap (λ k. slice_index numbers k) e)
  | inr ne ↦ less_le (kept.rising i j (omega arith) lt)
] where
  same_le : {a b : ℕ} → a ≡ b → a ≤ b
  same_le e = omega arith

  less_le : {a b : ℕ} → a < b → a ≤ b
  less_le e = omega arith

-- what a binary search finds
pub search_found : (numbers : List ℕ) (places : List (Option Item)) (number : ℕ) → AreKept numbers places → (r : Result ℕ ℕ) → IsBinarySearchResult (λ y. nat_cmp y number) numbers r
    → MatchResult r (λ i. (i < length numbers) × (slice_index numbers i ≡ number)) (λ i. (k : ℕ) → k < length numbers → slice_index numbers k ≢ number)
search_found numbers places number kept (Ok i) h = searched numbers number (Ok i) h (rises numbers places kept)
search_found numbers places number kept (Err i) h =
    let s = searched numbers number (Err i) h (rises numbers places kept) in
    λ k lt. elim (cases_lt k i) [ inl less ↦ below_it (s.1 k less) | inr le ↦ above_it (s.2 k le lt) ] where
      below_it : {a b : ℕ} → a < b → a ≢ b
      below_it h e = omega arith

      above_it : {a b : ℕ} → b < a → a ≢ b
      above_it h e = omega arith

-- a number that no place has
pub nowhere : (numbers : List ℕ) (places : List (Option Item)) (number : ℕ) → AreKept numbers places → ((k : ℕ) → k < length numbers → slice_index numbers k ≢ number)
    → item_numbered number (living places) ≡ None
nowhere numbers places number kept h = none_found (is_numbered number) places (λ j item there. ne_eqb item.number number (λ e. h j (kept.at_its_number j item there).0 ((kept.at_its_number j item there).1 ∙ e)))

-- a number whose place is empty
pub gone : (numbers : List ℕ) (places : List (Option Item)) (number place : ℕ) → AreKept numbers places → place < length numbers → slice_index numbers place ≡ number → node_at places place ≡ None
    → item_numbered number (living places) ≡ None
gone numbers places number place kept lt is empty = found (is_numbered number) places place (only_place numbers places number place kept lt is) ∙ empty

pub number_there : (numbers : List ℕ) (places : List (Option Item)) (number place : ℕ) (item : Item) → AreKept numbers places → StandsAt number places place item
    → item_numbered number (living places) ≡ Some item
number_there numbers places number place item kept h = found (is_numbered number) places place h.only ∙ h.there

pub without_place : (places : List (Option Item)) (number place : ℕ) (item : Item) → StandsAt number places place item → living (set places place None) ≡ without number (living places)
without_place places number place item h = emptied (is_numbered number) places place h.only

pub ends_then : (places : List (Option Item)) (number place end : ℕ) (item : Item) → StandsAt number places place item
    → living (set places place (Some (record item { end = end }))) ≡ ending_at number end (living places)
ends_then places number place end item h = changed (is_numbered number) (λ i. record i { end = end }) places place item h.there h.only

abbrev leased : List Item → ℕ → ℕ → Leased
leased items last room = record { items = items; last = last; room = room }

-- what a reader sees once a place has changed
pub seen : (places : List (Option Item)) (place last used : ℕ) (v : Option Item) (items : List Item) → living (set places place v) ≡ items
    → leased (living (set places place v)) last (length (set places place v) - used) ≡ leased items last (length places - used)
seen places place last used v items h = rw (h, length-set places place v) refl

-- Numbers in rising order, one more and one less.
use Rattle.std.proofs.Common.{◌≡◌, ◌≢◌, ℕ, zero, suc, ◌+◌, ◌-◌, ◌<◌, ◌≤◌, Bool, true, false, ◌||◌, eqb, List, [], ◌∷◌, length, Result, Ok, Err, inl, inr, ◌⊎◌, refl, ap, sym, ◌∙◌, subst, arith}
use Rattle.std.specs.Prelude.{slice_index, is_ok}
use Rattle.std.specs.List.{insert, remove}
use Rattle.std.proofs.lemmas.Bool.{cases_eq, cases_lt, eq-eqb, ne_eqb}
use Rattle.std.proofs.lemmas.List.Edits.{length-insert, get_or-insert_below, get_or-insert_at, get_or-insert_above, length-remove, get_or-remove_below, get_or-remove_above}
use Rattle.std.proofs.lemmas.List.Sorted.{searched}
use Rattle.std.specs.List.Sorted.{IsBinarySearchResult, IsSearchInRange}
use Rattle.std.specs.Ordering.{nat_cmp}
use Rattle.jsp_table.specs.Numbers.{contains, AreIncreasing}

or_true : (b : Bool) → (b || true) ≡ true
or_true true = refl
or_true false = refl

pub or_cases : (a b : Bool) → (a || b) ≡ true → (a ≡ true) ⊎ (b ≡ true)
or_cases true b e = inl refl
or_cases false b e = inr e

pub contains_more : (xs : List ℕ) (i n m : ℕ) → contains xs m ≡ true → contains (insert xs i n) m ≡ true
contains_more xs zero n m h = rw h (or_true (eqb n m))
contains_more [] (suc i) n m h = absurd (cc)
contains_more (x ∷ xs) (suc i) n m h = elim (or_cases (eqb x m) (contains xs m) h) [
  | inl e ↦ rw e refl
  | inr e ↦ rw (contains_more xs i n m e) (or_true (eqb x m))
]

pub contains_less : (xs : List ℕ) (i n m : ℕ) → slice_index xs i ≡ n → m ≢ n → contains xs m ≡ true → contains (remove xs i) m ≡ true
contains_less [] i n m is ne h = absurd (cc)
contains_less (x ∷ xs) zero n m is ne h = elim (or_cases (eqb x m) (contains xs m) h) [
  | inl e ↦ absurd (cc (ne_eqb x m (λ q. ne (sym q ∙ is)), e))
  | inr e ↦ e
]
contains_less (x ∷ xs) (suc i) n m is ne h = elim (or_cases (eqb x m) (contains xs m) h) [
  | inl e ↦ rw e refl
  | inr e ↦ rw (contains_less xs i n m is ne e) (or_true (eqb x m))
]

pub contains_at : (xs : List ℕ) (i n : ℕ) → i < length xs → slice_index xs i ≡ n → contains xs n ≡ true
contains_at [] i n lt is = absurd (omega arith)
contains_at (x ∷ xs) zero n lt is = rw (eq-eqb x n is) refl
contains_at (x ∷ xs) (suc i) n lt is = rw (contains_at xs i n (omega arith) is) (or_true (eqb x n))

pub never_falls : (xs : List ℕ) → AreIncreasing xs → (i j : ℕ) → i ≤ j → j < length xs → slice_index xs i ≤ slice_index xs j
never_falls xs up i j le lt = elim (cases_eq i j) [
  | inl e ↦ same_le (ap (λ k. slice_index xs k) e)
  | inr ne ↦ less_le (up i j (omega arith) lt)
] where
  same_le : {a b : ℕ} → a ≡ b → a ≤ b
  same_le e = omega arith

  less_le : {a b : ℕ} → a < b → a ≤ b
  less_le e = omega arith

-- what a binary search finds
pub found_there : (xs : List ℕ) (n i : ℕ) → AreIncreasing xs → IsBinarySearchResult (λ y. nat_cmp y n) xs (Ok i) → (i < length xs) × (slice_index xs i ≡ n)
found_there xs n i up h = searched xs n (Ok i) h (never_falls xs up)

pub record Splits (xs : List ℕ) (n i : ℕ) : Type 0 where
  pub within : i ≤ length xs
  pub below : (k : ℕ) → k < i → slice_index xs k < n
  pub above : (k : ℕ) → i ≤ k → k < length xs → n < slice_index xs k

pub found_between : (xs : List ℕ) (n i : ℕ) → AreIncreasing xs → IsBinarySearchResult (λ y. nat_cmp y n) xs (Err i) → i ≤ length xs → Splits xs n i
found_between xs n i up h le =
    let s = searched xs n (Err i) h (never_falls xs up) in
    record { within = le; below = λ k less. s.1 k less; above = λ k le lt. s.2 k le lt }

at_moved : (xs : List ℕ) (p n k : ℕ) → p ≤ length xs → p < k → slice_index (insert xs p n) k ≡ slice_index xs (k - 1)
at_moved xs p n k le lt =
    let e : k ≡ k - 1 + 1 = omega arith in
    ap (λ w. slice_index (insert xs p n) w) e ∙ get_or-insert_above xs p n 0 (k - 1) (omega arith) le

pub insert_increasing : (xs : List ℕ) (p n : ℕ) → AreIncreasing xs → Splits xs n p → AreIncreasing (insert xs p n)
insert_increasing xs p n up s i j less lt = elim (cases_lt j p) [
  | inl jp ↦ omega (arith, up i j less (omega (arith, s.within)), get_or-insert_below xs p n 0 i (omega arith) s.within, get_or-insert_below xs p n 0 j jp s.within)
  | inr pj ↦ elim (cases_eq j p) [
    | inl e ↦ at_new (get_or-insert_below xs p n 0 i (omega arith) s.within) (ap (λ w. slice_index (insert xs p n) w) e ∙ get_or-insert_at xs p n 0 s.within) (s.below i (omega arith))
    | inr ne ↦ past (omega arith)
  ]
] where
  at_new : {a b c d : ℕ} → a ≡ b → c ≡ d → b < d → a < c
  at_new e f h = omega arith

  past : p < j → slice_index (insert xs p n) i < slice_index (insert xs p n) j
  past pj =
      let len : j - 1 < length xs = omega (arith, length-insert xs p n s.within) in
      let right = at_moved xs p n j s.within pj in
      elim (cases_lt i p) [
        | inl ip ↦ at_new (get_or-insert_below xs p n 0 i ip s.within) right (up i (j - 1) (omega arith) len)
        | inr pi ↦ elim (cases_eq i p) [
          | inl e ↦ at_new (ap (λ w. slice_index (insert xs p n) w) e ∙ get_or-insert_at xs p n 0 s.within) right (s.above (j - 1) (omega arith) len)
          | inr ne ↦ at_new (at_moved xs p n i s.within (omega arith)) right (up (i - 1) (j - 1) (omega arith) len)
        ]
      ]

pub remove_increasing : (xs : List ℕ) (p : ℕ) → p < length xs → AreIncreasing xs → AreIncreasing (remove xs p)
remove_increasing xs p in_range up i j less lt =
    let len = length-remove xs p in_range in
    elim (cases_lt j p) [
      | inl jp ↦ both (get_or-remove_below xs p 0 i (omega arith) in_range) (get_or-remove_below xs p 0 j jp in_range) (up i j less (omega arith))
      | inr pj ↦ elim (cases_lt i p) [
        | inl ip ↦ both (get_or-remove_below xs p 0 i ip in_range) (get_or-remove_above xs p 0 j pj in_range) (up i (j + 1) (omega arith) (omega (arith, len)))
        | inr pi ↦ both (get_or-remove_above xs p 0 i pi in_range) (get_or-remove_above xs p 0 j pj in_range) (up (i + 1) (j + 1) (omega arith) (omega (arith, len)))
      ]
    ] where
      both : {a b c d : ℕ} → a ≡ b → c ≡ d → b < d → a < c
      both e f h = omega arith

-- ---- where a slice of the same numbers was searched

pub found_by : (xs ys : List ℕ) (n i : ℕ) → AreIncreasing xs → ys ≡ xs → IsBinarySearchResult (λ y. nat_cmp y n) ys (Ok i) → (i < length xs) × (slice_index xs i ≡ n)
found_by xs ys n i up same h = found_there xs n i up (subst (λ (w : List ℕ). IsBinarySearchResult (λ y. nat_cmp y n) w (Ok i)) same h)

pub inserted : (xs ys : List ℕ) (n i : ℕ) → AreIncreasing xs → ys ≡ xs → IsBinarySearchResult (λ y. nat_cmp y n) ys (Err i) → i ≤ length ys → AreIncreasing (insert xs i n)
inserted xs ys n i up same h le =
    insert_increasing xs i n up (found_between xs n i up (subst (λ (w : List ℕ). IsBinarySearchResult (λ y. nat_cmp y n) w (Err i)) same h) (subst (λ (w : List ℕ). i ≤ length w) same le))

-- ---- whether a number is among them

-- none of those that a search splits is the number
split_lacks : (xs : List ℕ) (n i : ℕ) → Splits xs n i → contains xs n ≡ false
split_lacks xs n i s = lacks xs (λ k lt. elim (cases_lt k i) [ inl less ↦ below (s.below k less) | inr more ↦ above (s.above k more lt) ]) where
  below : {a b : ℕ} → a < b → a ≢ b
  below lt e = omega arith

  above : {a b : ℕ} → b < a → a ≢ b
  above lt e = omega arith

  lacks : (ys : List ℕ) → ((k : ℕ) → k < length ys → slice_index ys k ≢ n) → contains ys n ≡ false
  lacks [] h = refl
  lacks (y ∷ ys) h = rw (ne_eqb y n (h zero (omega arith))) (lacks ys (λ k lt. h (suc k) (omega arith)))

pub is_among : (xs : List ℕ) (n : ℕ) (r : Result ℕ ℕ) → AreIncreasing xs → IsSearchInRange r (length xs) → IsBinarySearchResult (λ y. nat_cmp y n) xs r → is_ok r ≡ contains xs n
is_among xs n (Ok i) up bound h = let f = found_there xs n i up h in sym (contains_at xs i n f.0 f.1)
is_among xs n (Err i) up bound h = sym (split_lacks xs n i (found_between xs n i up h bound))

-- Lines that are sorted by their sessions, where these are 1, 2, 3 and so on.
use Rattle.std.proofs.Common.{◌≡◌, ◌≤◌, ◌<◌, ℕ, ◌+◌, ◌⊎◌, List, [], ◌∷◌, length, zero, suc, refl, ap, ap₂, sym, ◌∙◌, subst, inl, inr, arith}
use Rattle.std.specs.Prelude.{Some, slice_get, IsPermutation}
use Rattle.std.specs.List.{Contains}
use Rattle.std.specs.List.Sorted.{IsNonDecreasingBy}
use Rattle.std.proofs.lemmas.Bool.{cases_order}
use Rattle.std.proofs.lemmas.Option.{slice_get_within, get_or_from_slice_get}
use Rattle.std.proofs.lemmas.List.Sorted.{Contains-permutation, length_permutation}
use Rattle.jsp_closing.proofs.Places.{at_within}

-- the element at each place i has the number n + i
abbrev pub AreNumberedFrom : {X : Type 0} → (X → ℕ) → ℕ → List X → Type 0
AreNumberedFrom {X} f n [] = Unit {0}
AreNumberedFrom {X} f n (x ∷ xs) = (f x ≡ n) × AreNumberedFrom f (n + 1) xs

-- each number from n on, so many, is that of an element
abbrev Covers : {X : Type 0} → (X → ℕ) → ℕ → ℕ → List X → Type 0
Covers {X} f n many xs = (k : ℕ) → k < many → (x : X) × (Contains xs x) × (f x ≡ n + k)

-- what stands in a list stands at its front or behind it
contains_cases : {X : Type 0} → (y : X) (ys : List X) (x : X) → Contains (y ∷ ys) x → (y ≡ x) ⊎ Contains ys x
contains_cases y ys x (zero, within, is) = inl is
contains_cases y ys x (suc k, within, is) = inr (k, omega (arith, within), is)

contains_none : {X : Type 0} → (x : X) → Contains [] x → ⊥
contains_none x (k, within, is) = absurd (omega (arith, within))

tail_rises : {X : Type 0} → (f : X → ℕ) (y : X) (ys : List X) → IsNonDecreasingBy f (y ∷ ys) → IsNonDecreasingBy f ys
tail_rises f y ys h i j d le within = h (suc i) (suc j) d (omega (arith, le)) (omega (arith, within))

first_least : {X : Type 0} → (f : X → ℕ) (y : X) (ys : List X) (x : X) → IsNonDecreasingBy f (y ∷ ys) → Contains (y ∷ ys) x → f y ≤ f x
first_least f y ys x h (k, within, is) = subst (λ z. f y ≤ f z) is (h 0 k x (omega arith) within)

-- the front isn't needed for numbers past its own
covers_behind : {X : Type 0} → (f : X → ℕ) (n many : ℕ) (y : X) (ys : List X) → f y < n → Covers f n many (y ∷ ys) → Covers f n many ys
covers_behind f n many y ys less h k within =
    let (x, at, is) = h k within in
    elim (contains_cases y ys x at) [
      | inl same ↦ absurd (omega (arith, less, is, ap f same))
      | inr behind ↦ (x, behind, is)
    ]

covers_next : {X : Type 0} → (f : X → ℕ) (n many : ℕ) (y : X) (ys : List X) → f y ≡ n → Covers f n (suc many) (y ∷ ys) → Covers f (n + 1) many ys
covers_next f n many y ys same h k within =
    let (x, at, is) = h (suc k) (omega (arith, within)) in
    elim (contains_cases y ys x at) [
      | inl same' ↦ absurd (omega (arith, same, is, ap f same'))
      | inr behind ↦ (x, behind, omega (arith, is))
    ]

-- so many numbers need as many elements
covers_most : {X : Type 0} → (f : X → ℕ) (n many : ℕ) (ys : List X) → IsNonDecreasingBy f ys → Covers f n many ys → many ≤ length ys
covers_most f n zero ys h covers = omega arith
covers_most f n (suc many) [] h covers = (let first = covers 0 (omega arith) in absurd (contains_none first.0 first.1))
covers_most f n (suc many) (y ∷ ys) h covers =
    elim (cases_order (f y) n) [
      | inl same ↦ (let more = covers_most f (n + 1) many ys (tail_rises f y ys h) (covers_next f n many y ys same covers) in omega (arith, more))
      | inr apart ↦ elim apart [
        | inl less ↦ (let more = covers_most f n (suc many) ys (tail_rises f y ys h) (covers_behind f n (suc many) y ys less covers) in omega (arith, more))
        | inr past ↦ (let (x, at, is) = covers 0 (omega arith) in let least = first_least f y ys x h at in absurd (omega (arith, past, least, is)))
      ]
    ]

-- where there are no more, they stand in order
in_order : {X : Type 0} → (f : X → ℕ) (n : ℕ) (ys : List X) → IsNonDecreasingBy f ys → Covers f n (length ys) ys → AreNumberedFrom f n ys
in_order f n [] h covers = tt
in_order f n (y ∷ ys) h covers =
    elim (cases_order (f y) n) [
      | inl same ↦ (same, in_order f (n + 1) ys (tail_rises f y ys h) (covers_next f n (length ys) y ys same covers))
      | inr apart ↦ elim apart [
        | inl less ↦ (let more = covers_most f n (suc (length ys)) ys (tail_rises f y ys h) (covers_behind f n (suc (length ys)) y ys less covers) in absurd (omega (arith, more)))
        | inr past ↦ (let (x, at, is) = covers 0 (omega arith) in let least = first_least f y ys x h at in absurd (omega (arith, past, least, is)))
      ]
    ]

-- ---- a list in order and another order of it

-- from what stands at each place
pub numbered_by_places : {X : Type 0} → (f : X → ℕ) (n : ℕ) (xs : List X) → ((i : ℕ) (x : X) → slice_get xs i ≡ Some x → f x ≡ n + i) → AreNumberedFrom f n xs
numbered_by_places f n [] h = tt
numbered_by_places f n (x ∷ xs) h = (omega (arith, h 0 x refl), numbered_by_places f (n + 1) xs (λ i y at. omega (arith, h (suc i) y at)))

at_place : {X : Type 0} → (f : X → ℕ) (n : ℕ) (xs : List X) → AreNumberedFrom f n xs → (i : ℕ) (x : X) → slice_get xs i ≡ Some x → f x ≡ n + i
at_place f n [] h i x at = absurd (cc (at))
at_place f n (y ∷ xs) h zero x at = let same : y ≡ x = cc (at) in omega (arith, h.0, ap f same)
at_place f n (y ∷ xs) h (suc i) x at = omega (arith, at_place f (n + 1) xs h.1 i x at)

contains_at : {X : Type 0} → (xs : List X) (i : ℕ) (x : X) → slice_get xs i ≡ Some x → Contains xs x
contains_at xs i x at = (i, slice_get_within xs i x at, get_or_from_slice_get xs i x x at)

at_contained : {X : Type 0} → (xs : List X) (x : X) → Contains xs x → (i : ℕ) × (slice_get xs i ≡ Some x)
at_contained xs x (k, within, is) =
    let at = at_within xs k within in
    (k, at.1 ∙ ap Some (sym (get_or_from_slice_get xs k at.0 x at.1) ∙ is))

same_lists : {X : Type 0} → (xs ys : List X) → length xs ≡ length ys → ((i : ℕ) (x : X) → slice_get xs i ≡ Some x → slice_get ys i ≡ Some x) → xs ≡ ys
same_lists [] [] count h = refl
same_lists [] (y ∷ ys) count h = absurd (omega (arith, count))
same_lists (x ∷ xs) [] count h = absurd (omega (arith, count))
same_lists (x ∷ xs) (y ∷ ys) count h =
    let first : y ≡ x = let at : slice_get (y ∷ ys) 0 ≡ Some x = h 0 x refl in cc (at) in
    ap₂ (λ z zs. z ∷ zs) (sym first) (same_lists xs ys (omega (arith, count)) (λ i z at. h (suc i) z at))

-- a list that is sorted by numbers which another order of it counts from n on is that order
pub sorted_once : {X : Type 0} → (f : X → ℕ) (n : ℕ) (xs ys : List X) → IsPermutation xs ys → AreNumberedFrom f n xs → IsNonDecreasingBy f ys → xs ≡ ys
sorted_once f n xs ys moved numbered sorted =
    let count : length ys ≡ length xs = length_permutation xs ys moved in
    let covers : Covers f n (length ys) ys = λ k within. (
    let at = at_within xs k (omega (arith, within, count)) in
    (at.0, Contains-permutation xs ys at.0 moved (contains_at xs k at.0 at.1), at_place f n xs numbered k at.0 at.1)) in
    let ordered : AreNumberedFrom f n ys = in_order f n ys sorted covers in
    same_lists xs ys (sym count) (λ i x at. (
    let there = at_contained ys x (Contains-permutation xs ys x moved (contains_at xs i x at)) in
    let same : there.0 ≡ i = omega (arith, at_place f n xs numbered i x at, at_place f n ys ordered there.0 x there.1) in
    ap (slice_get ys) (sym same) ∙ there.1))

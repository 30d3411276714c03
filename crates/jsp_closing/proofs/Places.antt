-- What stands at a place of a list.
use Rattle.std.proofs.Common.{◌≡◌, ◌≢◌, ℕ, ◌+◌, ◌<◌, ◌⊎◌, List, [], ◌∷◌, ◌++◌, length, take, drop, get_or, replicate, zero, suc, refl, ap, sym, ◌∙◌, subst, inl, inr, arith, append_assoc}
use Rattle.std.specs.Prelude.{Some, slice_get}
use Rattle.std.proofs.Math.ListN.{set}
use Rattle.std.proofs.lemmas.Option.{slice_get_within, get_or_from_slice_get}
use Rattle.std.specs.List.{AllByRecursion}
use Rattle.std.proofs.lemmas.List.{take_more, take-append-drop, length-replicate, get_or-replicate}
use borrow.Author.Count.{below_more}

-- where one place is changed, an element is the new one or stood there before
pub at_set : {X : Type 0} → (xs : List X) (i j : ℕ) (v y : X) → slice_get (set xs i v) j ≡ Some y → ((j ≡ i) × (y ≡ v)) ⊎ ((j ≢ i) × (slice_get xs j ≡ Some y))
at_set [] i j v y e = absurd (cc)
at_set (x ∷ xs) zero zero v y e = inl (refl, cc)
at_set (x ∷ xs) zero (suc j) v y e = inr (λ same. omega (arith, same), e)
at_set (x ∷ xs) (suc i) zero v y e = inr (λ same. omega (arith, same), e)
at_set (x ∷ xs) (suc i) (suc j) v y e = elim (at_set xs i j v y e) [
  | inl h ↦ inl (ap suc h.0, h.1)
  | inr h ↦ inr (λ same. h.0 (omega (arith, same)), h.1)
]

-- the other places keep what they have
pub set_elsewhere : {X : Type 0} → (xs : List X) (i j : ℕ) (v : X) → j ≢ i → slice_get (set xs i v) j ≡ slice_get xs j
set_elsewhere [] i j v apart = refl
set_elsewhere (x ∷ xs) zero zero v apart = absurd (apart refl)
set_elsewhere (x ∷ xs) zero (suc j) v apart = refl
set_elsewhere (x ∷ xs) (suc i) zero v apart = refl
set_elsewhere (x ∷ xs) (suc i) (suc j) v apart = set_elsewhere xs i j v (λ same. apart (ap suc same))

-- where one is added at the end, an element is that one or stood there before
pub at_push : {X : Type 0} → (xs : List X) (j : ℕ) (v y : X) → slice_get (xs ++ v ∷ []) j ≡ Some y → ((j ≡ length xs) × (y ≡ v)) ⊎ (slice_get xs j ≡ Some y)
at_push [] zero v y e = inl (refl, cc)
at_push [] (suc j) v y e = absurd (cc)
at_push (x ∷ xs) zero v y e = inr e
at_push (x ∷ xs) (suc j) v y e = elim (at_push xs j v y e) [ inl h ↦ inl (ap suc h.0, h.1) | inr h ↦ inr h ]

-- each element below a place has the property
abbrev pub EachBelow : {X : Type 0} → (ℕ → X → Type 0) → List X → ℕ → Type 0
EachBelow {X} P xs n = (i : ℕ) → i < n → (x : X) → slice_get xs i ≡ Some x → P i x

-- and so has the next one
pub each_more : {X : Type 0} → (P : ℕ → X → Type 0) (xs : List X) (n : ℕ) (y : X) → EachBelow P xs n → slice_get xs n ≡ Some y → P n y → EachBelow P xs (n + 1)
each_more {X} P xs n y below at here =
    below_more (λ i. (x : X) → slice_get xs i ≡ Some x → P i x) n below
    (λ x at'. let same : y ≡ x = cc in subst (P n) same here)

-- so each has it
pub each_all : {X : Type 0} → (P : ℕ → X → Type 0) (xs : List X) (n : ℕ) → length xs ≡ n → EachBelow P xs n → (i : ℕ) (x : X) → slice_get xs i ≡ Some x → P i x
each_all P xs n all below i x at = below i (omega (arith, all, slice_get_within xs i x at)) x at

-- the first elements and the next one
pub take_next : {X : Type 0} → (xs : List X) (i : ℕ) (x : X) → i < length xs → x ≡ get_or xs i x → take (i + 1) xs ≡ take i xs ++ x ∷ []
take_next xs i x within is = take_more xs i x within ∙ ap (λ y. take i xs ++ y ∷ []) (sym is)

-- of so many copies each is the one
pub at_replicate : {X : Type 0} → (n i : ℕ) (v y : X) → slice_get (replicate n v) i ≡ Some y → y ≡ v
at_replicate n i v y at =
    let within : i < n = omega (arith, slice_get_within (replicate n v) i y at, length-replicate n v) in
    sym (get_or_from_slice_get (replicate n v) i y v at) ∙ get_or-replicate n i v v within

-- a place within a list has an element
pub at_within : {X : Type 0} → (xs : List X) (i : ℕ) → i < length xs → (x : X) × (slice_get xs i ≡ Some x)
at_within [] i within = absurd (omega (arith, within))
at_within (x ∷ xs) zero within = (x, refl)
at_within (x ∷ xs) (suc i) within = at_within xs i (omega (arith, within))

-- the first elements, the next one and those behind it
pub split_next : {X : Type 0} → (xs : List X) (i : ℕ) (x : X) → i < length xs → x ≡ get_or xs i x → xs ≡ take i xs ++ x ∷ drop (i + 1) xs
split_next xs i x within is =
    sym (take-append-drop (i + 1) xs) ∙ ap (λ ys. ys ++ drop (i + 1) xs) (take_next xs i x within is) ∙ append_assoc (take i xs) (x ∷ []) (drop (i + 1) xs)

-- what each element has one between two parts has
pub each_between : {X : Type 0} → (P : X → Type 0) (before after : List X) (x : X) → AllByRecursion P (before ++ x ∷ after) → P x
each_between P [] after x h = h.0
each_between P (y ∷ before) after x h = each_between P before after x h.1

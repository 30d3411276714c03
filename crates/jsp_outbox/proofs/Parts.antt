-- A list in two parts.
use Rattle.std.proofs.Common.{◌≡◌, ℕ, ◌+◌, ◌<◌, List, [], ◌∷◌, ◌++◌, length, take, drop, get_or, refl, ap, sym, ◌∙◌, append_assoc}
use Rattle.std.proofs.lemmas.List.{take_more}

take-length : {X : Type 0} (xs ys : List X) → take (length xs) (xs ++ ys) ≡ xs
take-length [] ys = refl
take-length (x ∷ xs) ys = ap (λ w. x ∷ w) (take-length xs ys)

drop-length : {X : Type 0} (xs ys : List X) → drop (length xs) (xs ++ ys) ≡ ys
drop-length [] ys = refl
drop-length (x ∷ xs) ys = drop-length xs ys

-- the first part, and the second, by the length of the first
pub first_part : {X : Type 0} (n : ℕ) (xs ys all : List X) → xs ++ ys ≡ all → n ≡ length xs → (xs ≡ take n all) × (ys ≡ drop n all)
first_part n xs ys all whole count = (
  sym (ap (take n) (sym whole) ∙ ap (λ k. take k (xs ++ ys)) count ∙ take-length xs ys),
  sym (ap (drop n) (sym whole) ∙ ap (λ k. drop k (xs ++ ys)) count ∙ drop-length xs ys),
)

-- one more is copied
pub copied_more : {X : Type 0} (start all copies new : List X) (i : ℕ) (x : X) → i < length all → x ≡ get_or all i x → copies ≡ start ++ take i all → new ≡ copies ++ x ∷ [] → new ≡ start ++ take (i + 1) all
copied_more start all copies new i x lt is so more =
    more ∙ ap (λ w. w ++ x ∷ []) so ∙ append_assoc start (take i all) (x ∷ []) ∙ ap (λ w. start ++ (take i all ++ w ∷ [])) is ∙ ap (λ w. start ++ w) (sym (take_more all i x lt))

-- Rows that pass a test are no more than the rows that pass a weaker one.
use Rattle.std.proofs.Common.{◌≡◌, ◌≤◌, Bool, true, false, List, [], ◌∷◌, length, arith, refl}
use Rattle.std.specs.Prelude.{filter}

at : {X : Type 0} (p q : X → Bool) (x : X) (xs : List X) (b c : Bool) → p x ≡ b → q x ≡ c → (b ≡ true → c ≡ true) → length (filter p xs) ≤ length (filter q xs) → length (filter p (x ∷ xs)) ≤ length (filter q (x ∷ xs))
at p q x xs true true is also weaker rest = rw (is, also) (omega (arith, rest))
at p q x xs true false is also weaker rest = absurd (cc (weaker refl))
at p q x xs false true is also weaker rest = rw (is, also) (omega (arith, rest))
at p q x xs false false is also weaker rest = rw (is, also) rest

pub fewer : {X : Type 0} (p q : X → Bool) → ((x : X) → p x ≡ true → q x ≡ true) → (xs : List X) → length (filter p xs) ≤ length (filter q xs)
fewer p q weaker [] = omega arith
fewer p q weaker (x ∷ xs) = at p q x xs (p x) (q x) refl refl (weaker x) (fewer p q weaker xs)

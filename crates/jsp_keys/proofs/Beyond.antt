-- The place in a list that is behind its first and a part of it.
use Rattle.std.proofs.Common.{◌≡◌, ℕ, zero, suc, ◌-◌, ◌≤◌, List, ◌∷◌, ◌++◌, length, slice_index, refl, arith}
use Rattle.std.proofs.lemmas.List.{get_or-append_right}

pub beyond : (first : ℕ) (part rest : List ℕ) (n m place : ℕ) → length part ≡ n → place ≡ suc m → n ≤ m
    → slice_index (first ∷ (part ++ rest)) place ≡ slice_index rest (m - n)
beyond first part rest n m place same next within = rw next (get_or-append_right part rest n m 0 same within)

-- what isn't the first has one before it
pub has_before : (place : ℕ) → (place ≡ 0 → ⊥) → place ≡ suc (place - 1)
has_before zero some = absurd (some refl)
has_before (suc n) some = omega arith

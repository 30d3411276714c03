-- What is known of those that pass, up to the one that was found last.
use Rattle.std.proofs.Common.{◌≡◌, ℕ, ◌<◌, ◌≤◌, Bool, true, false, cond, nat_lt, List, [], ◌∷◌, Some, None, refl, ap, sym, ◌∙◌, subst, arith, inl, inr}
use Rattle.std.specs.Prelude.{find}
use Rattle.std.specs.List.{AllByRecursion}
use Rattle.std.proofs.lemmas.Bool.{cases_lt}
use Rattle.std.proofs.lemmas.Bool.Decides.{nat_tests}
use Rattle.jsp_table.specs.Finding.{AreNumbered}
use Rattle.jsp_table.proofs.Finding.{each, both}
use Rattle.jsp_keyed.specs.Finding.{is_next, IsUpTo, IsLeast}
use Rattle.jsp_keyed.proofs.Least.{found_least}
use Rattle.jsp_keyed.proofs.Walking.{only_one}

over_yes : (a b : ℕ) → a < b → nat_lt a b ≡ true
over_yes a b h = grind (arith, nat_tests)

module _ {T : Type 0} (num : T → ℕ) (passed : T → Bool) where
  abbrev pub IsKnown : (T → Type 0) → ℕ → T → Type 0
  IsKnown P last x = num x ≤ last → passed x ≡ true → P x

  pub none_known : (P : T → Type 0) (xs : List T) → AllByRecursion (λ x. 0 < num x) xs → AllByRecursion (IsKnown P 0) xs
  none_known P xs h = each (λ x. 0 < num x) (IsKnown P 0) xs h (λ x up le. absurd (above up le)) where
    above : {n : ℕ} → 0 < n → n ≤ 0 → ⊥
    above up le = omega arith

  is_after : (last : ℕ) (x : T) → last < num x → passed x ≡ true → is_next num passed last x ≡ true
  is_after last x lt e = rw (over_yes last (num x) lt, e) refl

  -- one more is known, and what was known of the others is so still
  pub one_known : (P Q : T → Type 0) (last : ℕ) (x : T) (xs : List T) → AreNumbered num xs → Some x ≡ find (is_next num passed last) xs → ((y : T) → P y → Q y) → Q x
      → AllByRecursion (IsKnown P last) xs → AllByRecursion (IsKnown Q (num x)) xs
  one_known P Q last x xs up is keeps here h =
      let p = is_next num passed last in
      let least = subst (λ o. IsLeast num p p xs o) (sym is) (found_least num p p p xs up (λ r k. k) (λ r k l. k)) in
      both (IsKnown P last) (λ y. (num y ≡ num x → y ≡ x) × (p y ≡ true → num x ≤ num y)) (IsKnown Q (num x)) xs h
      (both (λ y. num y ≡ num x → y ≡ x) (λ y. p y ≡ true → p y ≡ true → IsUpTo num (Some x) (num y)) (λ y. (num y ≡ num x → y ≡ x) × (p y ≡ true → num x ≤ num y)) xs (only_one num (num x) xs x up least.one.1) least.least (λ y f g. (f, (λ e. g e e))))
      (λ y k two le e. elim (cases_lt last (num y)) [
        | inl lt ↦ subst Q (sym (two.0 (same le (two.1 (is_after last y lt e))))) here
        | inr ge ↦ keeps y (k ge e)
      ]) where
        same : {a b : ℕ} → a ≤ b → b ≤ a → a ≡ b
        same f g = omega arith

  none_next : (p : T → Bool) (xs : List T) → None ≡ find p xs → AllByRecursion (λ y. p y ≡ false) xs
  none_next p [] h = tt
  none_next p (y ∷ xs) h = at (p y) refl (none_next p xs) where
    at : (b : Bool) → p y ≡ b → (None ≡ find p xs → AllByRecursion (λ y. p y ≡ false) xs) → (p y ≡ false) × AllByRecursion (λ y. p y ≡ false) xs
    at true e rest = absurd (cc (h, ap (λ b. cond b (Some y) (find p xs)) e))
    at false e rest = (e, rest (h ∙ ap (λ b. cond b (Some y) (find p xs)) e))

  pub all_known : (P : T → Type 0) (last : ℕ) (xs : List T) → None ≡ find (is_next num passed last) xs → AllByRecursion (IsKnown P last) xs → AllByRecursion (λ y. passed y ≡ true → P y) xs
  all_known P last xs none h =
      both (IsKnown P last) (λ y. is_next num passed last y ≡ false) (λ y. passed y ≡ true → P y) xs h (none_next (is_next num passed last) xs none)
      (λ y k n e. elim (cases_lt last (num y)) [ inl lt ↦ absurd (cc (n, is_after last y lt e)) | inr ge ↦ k ge e ])

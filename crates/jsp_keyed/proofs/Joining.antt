-- Things that rise after others that do.
use Rattle.std.proofs.Common.{◌≡◌, ℕ, ◌+◌, ◌<◌, ◌≤◌, Bool, true, false, List, [], ◌∷◌, ◌++◌, length, take, get_or, ap, sym, ◌∙◌, subst, arith}
use Rattle.std.specs.Bool.{OnTrue}
use Rattle.std.specs.List.{AllByRecursion}
use Rattle.std.proofs.lemmas.List.{take_more}
use Rattle.jsp_table.specs.Finding.{AreNumbered}
use Rattle.jsp_table.proofs.Finding.{each}
use Rattle.jsp_keyed.proofs.Named.{All-append}

pub on_true : (b : Bool) (P Q : Type 0) → (P → Q) → OnTrue b P → OnTrue b Q
on_true true P Q f h = f h
on_true false P Q f h = tt

module _ {T : Type 0} (num : T → ℕ) where
  abbrev pub ArePositive : List T → Type 0
  ArePositive xs = AllByRecursion (λ x. 0 < num x) xs

  rising_join : (xs : List T) (y : T) (ys : List T) → AreNumbered num xs → AreNumbered num (y ∷ ys) → AllByRecursion (λ x. num x < num y) xs → AreNumbered num (xs ++ y ∷ ys)
  rising_join [] y ys up vp below = vp
  rising_join (x ∷ xs) y ys up vp below =
      (All-append (λ z. num x < num z) xs (y ∷ ys) up.0 (below.0, each (λ z. num y < num z) (λ z. num x < num z) ys vp.0 (λ z lt. over below.0 lt)), rising_join xs y ys up.1 vp below.1) where
        over : {a b c : ℕ} → a < b → b < c → a < c
        over p q = omega arith

  -- those whose first is above all others
  pub joined : (xs ys : List T) (first : T) (n : ℕ) → 1 ≤ length ys → first ≡ get_or ys 0 first → n ≡ num first → AreNumbered num xs → AllByRecursion (λ x. num x < n) xs → AreNumbered num ys → AreNumbered num (xs ++ ys)
  joined xs [] first n some is e up below vp = absurd (omega arith)
  joined xs (y ∷ ys) first n some is e up below vp = rising_join xs y ys up vp (subst (λ (m : ℕ). AllByRecursion (λ x. num x < m) xs) (e ∙ ap num is) below)

  -- one more that is above the last
  pub one_above : (xs : List T) (i last n : ℕ) (x : T) → i < length xs → x ≡ get_or xs i x → n ≡ num x → last < n → AreNumbered num (take i xs) → ArePositive (take i xs) → AllByRecursion (λ y. num y ≤ last) (take i xs)
      → AreNumbered num (take (i + 1) xs) × (ArePositive (take (i + 1) xs) × AllByRecursion (λ y. num y ≤ n) (take (i + 1) xs))
  one_above xs i last n x lt is e above up positive below =
      let more : take (i + 1) xs ≡ take i xs ++ x ∷ [] = take_more xs i x lt ∙ ap (λ w. take i xs ++ w ∷ []) (sym is) in
      subst (λ (w : List T). AreNumbered num w × (ArePositive w × AllByRecursion (λ y. num y ≤ n) w)) (sym more) (
        rising_join (take i xs) x [] up (tt, tt) (each (λ y. num y ≤ last) (λ y. num y < num x) (take i xs) below (λ y le. less le above e)),
        (
          All-append (λ y. 0 < num y) (take i xs) (x ∷ []) positive (high above e, tt),
          All-append (λ y. num y ≤ n) (take i xs) (x ∷ []) (each (λ y. num y ≤ last) (λ y. num y ≤ n) (take i xs) below (λ y le. lower le above)) (same e, tt),
        ),
      ) where
        high : {a b c : ℕ} → a < b → b ≡ c → 0 < c
        high p q = omega arith

        less : {a b c d : ℕ} → a ≤ b → b < c → c ≡ d → a < d
        less p q r = omega arith

        lower : {a b c : ℕ} → a ≤ b → b < c → a ≤ c
        lower p q = omega arith

        same : {a b : ℕ} → b ≡ a → a ≤ b
        same p = omega arith

-- Rising numbers above another, one after the other.
use Rattle.std.proofs.Common.{◌≡◌, ℕ, suc, ◌<◌, ◌≤◌, Bool, true, false, cond, nat_lt, List, [], ◌∷◌, length, Some, None, refl, ap, sym, ◌∙◌, arith}
use Rattle.std.specs.Prelude.{slice_index, slice_get, find, filter}
use Rattle.std.specs.Ordering.{nat_cmp}
use Rattle.std.specs.declared.ops.Bound.TheVariants.{Excluded, Unbounded}
use Rattle.std.specs.BTreeMap.Range.{range_contains}
use Rattle.std.proofs.lemmas.Bool.Decides.{nat_tests}
use Rattle.jsp_table.specs.Numbers.{AreIncreasing}
use Rattle.jsp_table.proofs.Next.{next_in, next_is_above}

abbrev pub is_over : ℕ → ℕ → Bool
is_over n m = range_contains nat_cmp (Excluded n) Unbounded m

over_yes : (n m : ℕ) → n < m → is_over n m ≡ true
over_yes n m h = grind (arith, nat_tests)

over_no : (n m : ℕ) → m ≤ n → is_over n m ≡ false
over_no n m h = grind (arith, nat_tests)

over_not : (n m : ℕ) → is_over n m ≡ false → m ≤ n
over_not n m h = grind (arith, nat_tests)

-- where all are above, none is left out
all_over : (xs : List ℕ) (n : ℕ) → ((k : ℕ) → k < length xs → n < slice_index xs k) → filter (is_over n) xs ≡ xs
all_over [] n h = refl
all_over (x ∷ xs) n h = rw (over_yes n x (h 0 (omega arith))) (ap (λ ys. x ∷ ys) (all_over xs n (λ k lt. h (suc k) (omega arith))))

rest_increases : (x : ℕ) (xs : List ℕ) → AreIncreasing (x ∷ xs) → AreIncreasing xs
rest_increases x xs up i j lt within = up (suc i) (suc j) (omega arith) (omega arith)

-- the first of those above a number is the next above it
pub first_over : (ns : List ℕ) (last n : ℕ) (ys : List ℕ) → filter (is_over last) ns ≡ n ∷ ys → find (nat_lt last) ns ≡ Some n
first_over ns last n ys is = sym (next_in ns last) ∙ ap (λ w. slice_get w 0) is

pub none_over : (ns : List ℕ) (last : ℕ) → filter (is_over last) ns ≡ [] → find (nat_lt last) ns ≡ None
none_over ns last is = sym (next_in ns last) ∙ ap (λ w. slice_get w 0) is

-- behind the first of those above a number stand those above that one
pub behind_first : (ns : List ℕ) (last n : ℕ) (ys : List ℕ) → AreIncreasing ns → filter (is_over last) ns ≡ n ∷ ys → ys ≡ filter (is_over n) ns
behind_first [] last n ys up is = absurd (cc)
behind_first (x ∷ xs) last n ys up is = at (is_over last x) refl (behind_first xs last n ys (rest_increases x xs up)) where
  over_rest : (m : ℕ) → m ≤ x → filter (is_over m) xs ≡ xs
  over_rest m le = all_over xs m (λ k lt. above m (slice_index xs k) le (up 0 (suc k) (omega arith) (omega arith))) where
    above : (a b : ℕ) → a ≤ x → x < b → a < b
    above a b le lt = omega arith

  both : {a b : ℕ} {us ws : List ℕ} → a ∷ us ≡ b ∷ ws → (a ≡ b) × (us ≡ ws)
  both e = (cc, cc)

  below : (m : ℕ) → is_over last x ≡ true → last ≤ x
  below m e = grind (arith, nat_tests)

  at : (b : Bool) → is_over last x ≡ b → (filter (is_over last) xs ≡ n ∷ ys → ys ≡ filter (is_over n) xs) → ys ≡ filter (is_over n) (x ∷ xs)
  at true e rest =
      let split = both (ap (λ b. cond b (x ∷ filter (is_over last) xs) (filter (is_over last) xs)) (sym e) ∙ is) in
      let these : ys ≡ xs = sym split.1 ∙ over_rest last (below n e) in
      let not_first : is_over n x ≡ false = over_no n x (omega (arith, split.0)) in
      rw not_first (these ∙ sym (over_rest n (omega (arith, split.0))))
  at false e rest =
      let later : filter (is_over last) xs ≡ n ∷ ys = ap (λ b. cond b (x ∷ filter (is_over last) xs) (filter (is_over last) xs)) (sym e) ∙ is in
      let less : last < n = next_is_above xs last n (first_over xs last n ys later) in
      rw (over_no n x (omega (arith, less, over_not last x e))) (rest later)

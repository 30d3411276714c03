-- The least number above another.
use Rattle.std.proofs.Common.{◌≡◌, ◌≢◌, ℕ, zero, suc, ◌<◌, ◌≤◌, Bool, true, false, cond, ◌||◌, eqb, nat_lt, List, [], ◌∷◌, length, Option, Some, None, Bor, refl, ap, sym, ◌∙◌, arith}
use Rattle.std.specs.Prelude.{slice_index, slice_get, find, filter, option_copied}
use Rattle.std.specs.List.{list_any, HoldsAt}
use Rattle.std.specs.Option.{MatchOption}
use Rattle.std.specs.Ordering.{nat_cmp, is_eq}
use Rattle.std.specs.declared.ops.Bound.TheVariants.{Excluded, Unbounded}
use Rattle.std.specs.BTreeMap.Range.{range_contains}
use Rattle.std.specs.Map.Iter.{TakesFirst}
use Rattle.std.proofs.lemmas.Bool.Decides.{nat_tests}
use Rattle.std.proofs.lemmas.Option.{slice_get_past, slice_get_read}
use Rattle.jsp_table.specs.Numbers.{contains, AreIncreasing}

lt_true : (a b : ℕ) → a < b → nat_lt a b ≡ true
lt_true a b h = grind (arith, nat_tests)

lt_false : (a b : ℕ) → b ≤ a → nat_lt a b ≡ false
lt_false a b h = grind (arith, nat_tests)

-- it stands where those up to the other end
pub next_at : (xs : List ℕ) (n k : ℕ) → k ≤ length xs → ((j : ℕ) → j < k → slice_index xs j ≤ n) → ((j : ℕ) → k ≤ j → j < length xs → n < slice_index xs j) → slice_get xs k ≡ find (nat_lt n) xs
next_at [] n zero le low high = refl
next_at [] n (suc k) le low high = absurd (omega arith)
next_at (x ∷ xs) n zero le low high = rw (lt_true n x (high zero (omega arith) (omega arith))) refl
next_at (x ∷ xs) n (suc k) le low high =
    rw (lt_false n x (low zero (omega arith))) (next_at xs n k (omega arith) (λ j lt. low (suc j) (omega arith)) (λ j le lt. high (suc j) (omega arith) (omega arith)))

pub got : (xs : List ℕ) (i : ℕ) (r : Option (Bor ℕ)) → MatchOption r (length xs ≤ i) (λ x. (i < length xs) × HoldsAt (λ y. x.now ≡ y) xs i) → option_copied r ≡ slice_get xs i
got xs i None h = sym (slice_get_past xs i h)
got xs i (Some x) h = sym (slice_get_read xs (length xs) i x.now refl h.0 (h.1 x.now))

-- ---- in a tree

-- a tree has the numbers of its list
pub has_key : (xs : List ℕ) (m : ℕ) → list_any (λ k. is_eq (nat_cmp m k)) xs ≡ contains xs m
has_key [] m = refl
has_key (x ∷ xs) m = rw (same m x, has_key xs m) refl where
  same : (a b : ℕ) → is_eq (nat_cmp a b) ≡ eqb b a
  same a b = grind (arith, nat_tests)

-- what a tree has before and after
pub made : (xs ys : List ℕ) (m : ℕ) → list_any (λ k. is_eq (nat_cmp m k)) ys ≡ list_any (λ k. is_eq (nat_cmp m k)) xs → contains xs m ≡ true → contains ys m ≡ true
made xs ys m same h = sym (has_key ys m) ∙ (same ∙ (has_key xs m ∙ h))

pub one_more : (xs ys : List ℕ) (n m : ℕ) → list_any (λ k. is_eq (nat_cmp m k)) ys ≡ cond (is_eq (nat_cmp n m)) true (list_any (λ k. is_eq (nat_cmp m k)) xs) → contains xs m ≡ true → contains ys m ≡ true
one_more xs ys n m more h = sym (has_key ys m) ∙ (more ∙ either (is_eq (nat_cmp n m)) (has_key xs m ∙ h)) where
  either : (b : Bool) → {c : Bool} → c ≡ true → cond b true c ≡ true
  either true e = refl
  either false e = e

pub one_less : (xs ys : List ℕ) (n m : ℕ) → m ≢ n → list_any (λ k. is_eq (nat_cmp m k)) ys ≡ cond (is_eq (nat_cmp n m)) false (list_any (λ k. is_eq (nat_cmp m k)) xs) → contains xs m ≡ true → contains ys m ≡ true
one_less xs ys n m ne less h = sym (has_key ys m) ∙ (less ∙ rw (apart n m ne) (has_key xs m ∙ h)) where
  apart : (a b : ℕ) → b ≢ a → is_eq (nat_cmp a b) ≡ false
  apart a b ne = grind (arith, nat_tests)

-- what is taken first
pub taken : (xs ys : List ℕ) (r : Option (Bor ℕ)) → TakesFirst (λ (k : Bor ℕ). k.now) xs r ys → option_copied r ≡ slice_get xs 0
taken xs ys None h = rw h.0 refl
taken xs ys (Some k) h = rw h refl

-- it is the first of those above the other
pub next_in : (xs : List ℕ) (n : ℕ) → slice_get (filter (λ k. range_contains nat_cmp (Excluded n) Unbounded k) xs) 0 ≡ find (nat_lt n) xs
next_in [] n = refl
next_in (x ∷ xs) n = rw (same n x) (at (nat_lt n x) (next_in xs n)) where
  same : (a b : ℕ) → range_contains nat_cmp (Excluded a) Unbounded b ≡ nat_lt a b
  same a b = grind (arith, nat_tests)

  at : (b : Bool) → slice_get (filter (λ k. range_contains nat_cmp (Excluded n) Unbounded k) xs) 0 ≡ find (nat_lt n) xs
      → slice_get (cond b (x ∷ filter (λ k. range_contains nat_cmp (Excluded n) Unbounded k) xs) (filter (λ k. range_contains nat_cmp (Excluded n) Unbounded k) xs)) 0 ≡ cond b (Some x) (find (nat_lt n) xs)
  at true e = refl
  at false e = e

-- ---- what it leaves out

-- one below the first of rising numbers isn't there
below_all : (xs : List ℕ) (m : ℕ) → ((k : ℕ) → k < length xs → m < slice_index xs k) → contains xs m ≡ false
below_all [] m h = refl
below_all (x ∷ xs) m h = rw (apart x m (h zero (omega arith))) (below_all xs m (λ k lt. h (suc k) (omega arith))) where
  apart : (a b : ℕ) → b < a → eqb a b ≡ false
  apart a b lt = grind (arith, nat_tests)

-- no number stands between
pub none_between : (xs : List ℕ) (last n m : ℕ) → AreIncreasing xs → find (nat_lt last) xs ≡ Some n → last < m → m < n → contains xs m ≡ false
none_between [] last n m up is over under = refl
none_between (x ∷ xs) last n m up is over under = at (nat_lt last x) refl (λ there. none_between xs last n m (λ i j less lt. up (suc i) (suc j) (omega arith) (omega arith)) there over under) where
  some_same : {a b : ℕ} → Some a ≡ Some b → a ≡ b
  some_same e = cc

  apart : (a b : ℕ) → a < b → eqb a b ≡ false
  apart a b lt = grind (arith, nat_tests)

  below : (a b : ℕ) → nat_lt a b ≡ false → b ≤ a
  below a b h = grind (arith, nat_tests)

  at : (b : Bool) → nat_lt last x ≡ b → (find (nat_lt last) xs ≡ Some n → contains xs m ≡ false) → contains (x ∷ xs) m ≡ false
  at true e rest =
      let first : x ≡ n = some_same (ap (λ b. cond b (Some x) (find (nat_lt last) xs)) (sym e) ∙ is) in
      below_all (x ∷ xs) m (λ k lt. over_first k lt first) where
        over_first : (k : ℕ) → k < length (x ∷ xs) → x ≡ n → m < slice_index (x ∷ xs) k
        over_first zero lt first = omega arith
        over_first (suc k) lt first = let h : slice_index (x ∷ xs) zero < slice_index (x ∷ xs) (suc k) = up zero (suc k) (omega arith) lt in omega (arith, h)
  at false e rest =
      rw (apart x m (omega (arith, below last x e))) (rest (ap (λ b. cond b (Some x) (find (nat_lt last) xs)) (sym e) ∙ is))

-- where there is none above, each number is up to the other
pub none_above : (xs : List ℕ) (last m : ℕ) → find (nat_lt last) xs ≡ None → last < m → contains xs m ≡ false
none_above [] last m is over = refl
none_above (x ∷ xs) last m is over = at (nat_lt last x) refl (λ there. none_above xs last m there over) where
  apart : (a b : ℕ) → a < b → eqb a b ≡ false
  apart a b lt = grind (arith, nat_tests)

  below : (a b : ℕ) → nat_lt a b ≡ false → b ≤ a
  below a b h = grind (arith, nat_tests)

  at : (b : Bool) → nat_lt last x ≡ b → (find (nat_lt last) xs ≡ None → contains xs m ≡ false) → contains (x ∷ xs) m ≡ false
  at true e rest = absurd (cc (is, ap (λ b. cond b (Some x) (find (nat_lt last) xs)) e))
  at false e rest = rw (apart x m (omega (arith, below last x e))) (rest (ap (λ b. cond b (Some x) (find (nat_lt last) xs)) (sym e) ∙ is))

-- it is above the other, and is there
pub next_is_above : (xs : List ℕ) (last n : ℕ) → find (nat_lt last) xs ≡ Some n → last < n
next_is_above [] last n is = absurd (cc)
next_is_above (x ∷ xs) last n is = at (nat_lt last x) refl (λ there. next_is_above xs last n there) where
  above : (a b : ℕ) → nat_lt a b ≡ true → a < b
  above a b h = grind (arith, nat_tests)

  same : x ≡ n → last < x → last < n
  same e h = omega arith

  some_same : {a b : ℕ} → Some a ≡ Some b → a ≡ b
  some_same e = cc

  at : (b : Bool) → nat_lt last x ≡ b → (find (nat_lt last) xs ≡ Some n → last < n) → last < n
  at true e rest = same (some_same (ap (λ b. cond b (Some x) (find (nat_lt last) xs)) (sym e) ∙ is)) (above last x e)
  at false e rest = rest (ap (λ b. cond b (Some x) (find (nat_lt last) xs)) (sym e) ∙ is)

pub next_is_there : (xs : List ℕ) (last n : ℕ) → find (nat_lt last) xs ≡ Some n → contains xs n ≡ true
next_is_there [] last n is = absurd (cc)
next_is_there (x ∷ xs) last n is = at (nat_lt last x) refl (λ there. next_is_there xs last n there) where
  or_true : (b : Bool) → (b || true) ≡ true
  or_true true = refl
  or_true false = refl

  some_same : {a b : ℕ} → Some a ≡ Some b → a ≡ b
  some_same e = cc

  here : (a b : ℕ) → a ≡ b → eqb a b ≡ true
  here a b e = grind (arith, nat_tests)

  at : (b : Bool) → nat_lt last x ≡ b → (find (nat_lt last) xs ≡ Some n → contains xs n ≡ true) → contains (x ∷ xs) n ≡ true
  at true e rest = rw (here x n (some_same (ap (λ b. cond b (Some x) (find (nat_lt last) xs)) (sym e) ∙ is))) refl
  at false e rest = rw (rest (ap (λ b. cond b (Some x) (find (nat_lt last) xs)) (sym e) ∙ is)) (or_true (eqb x n))

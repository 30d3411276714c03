-- Things whose numbers rise: what a binary search finds, and what goes or changes at the place found.
use Rattle.std.proofs.Common.{◌≡◌, ◌≢◌, ℕ, zero, suc, ◌-◌, ◌<◌, ◌≤◌, Bool, true, false, not, cond, eqb, nat_lt, List, [], ◌∷◌, ◌++◌, length, get_or, set, drop, filter, Some, Ok, Err, inl, inr, refl, ap, sym, ◌∙◌, arith}
use Rattle.std.specs.Prelude.{map, zip, slice_get}
use Rattle.std.specs.List.{remove, list_any, list_all, AllByRecursion, HoldsAt}
use Rattle.std.specs.List.Sorted.{IsBinarySearchResult, IsNonDecreasingBy}
use Rattle.std.specs.Ordering.{nat_cmp, ordering_index}
use Rattle.std.proofs.lemmas.Bool.{and_parts, cases_lt, eq-eqb, ne_eqb}
use Rattle.std.proofs.lemmas.Bool.Decides.{nat_tests}
use Rattle.std.proofs.lemmas.Cmp.{ranked}
use Rattle.std.proofs.lemmas.List.Folds.{list_any_at}
use Rattle.jsp_table.specs.Finding.{AreNumbered}

module _ {T : Type 0} where
  each : (P Q : T → Type 0) → ((x : T) → P x → Q x) → (xs : List T) → AllByRecursion P xs → AllByRecursion Q xs
  each P Q f [] h = tt
  each P Q f (x ∷ xs) h = (f x h.0, each P Q f xs h.1)

  everywhere : (P : T → Type 0) (xs : List T) → ((k : ℕ) (d : T) → k < length xs → P (get_or xs k d)) → AllByRecursion P xs
  everywhere P [] h = tt
  everywhere P (x ∷ xs) h = (h zero x (omega arith), everywhere P xs (λ k d lt. h (suc k) d (omega arith)))

  at_place : (P : T → Type 0) (xs : List T) (k : ℕ) (d : T) → AllByRecursion P xs → k < length xs → P (get_or xs k d)
  at_place P [] k d h lt = absurd (omega arith)
  at_place P (x ∷ xs) zero d h lt = h.0
  at_place P (x ∷ xs) (suc k) d h lt = at_place P xs k d h.1 (omega arith)

  all_more : (P : T → Type 0) (xs : List T) (y : T) → AllByRecursion P xs → P y → AllByRecursion P (xs ++ y ∷ [])
  all_more P [] y h this = (this, tt)
  all_more P (x ∷ xs) y h this = (h.0, all_more P xs y h.1 this)

  all_left : (P : T → Type 0) (t : T → Bool) (xs : List T) → AllByRecursion P xs → AllByRecursion P (filter t xs)
  all_left P t [] h = tt
  all_left P t (x ∷ xs) h = at (t x) (all_left P t xs h.1) where
    at : (b : Bool) → AllByRecursion P (filter t xs) → AllByRecursion P (cond b (x ∷ filter t xs) (filter t xs))
    at true rest = (h.0, rest)
    at false rest = rest

module _ {T : Type 0} (num : T → ℕ) where
  -- ---- one more, some less, or changed: the numbers rise still

  pub rise_more : (xs : List T) (y : T) → AreNumbered num xs → AllByRecursion (λ x. num x < num y) xs → AreNumbered num (xs ++ y ∷ [])
  rise_more [] y up below = (tt, tt)
  rise_more (x ∷ xs) y up below = (all_more (λ z. num x < num z) xs y up.0 below.0, rise_more xs y up.1 below.1)

  pub rise_left : (t : T → Bool) (xs : List T) → AreNumbered num xs → AreNumbered num (filter t xs)
  rise_left t [] up = tt
  rise_left t (x ∷ xs) up = at (t x) (rise_left t xs up.1) where
    at : (b : Bool) → AreNumbered num (filter t xs) → AreNumbered num (cond b (x ∷ filter t xs) (filter t xs))
    at true rest = (all_left (λ y. num x < num y) t xs up.0, rest)
    at false rest = rest

  pub rise_changed : (f : T → T) → ((x : T) → num (f x) ≡ num x) → (xs : List T) → AreNumbered num xs → AreNumbered num (map f xs)
  rise_changed f same [] up = tt
  rise_changed f same (x ∷ xs) up = (above xs up.0, rise_changed f same xs up.1) where
    less : {a b c e : ℕ} → a ≡ b → c ≡ e → b < e → a < c
    less p q h = omega arith

    above : (ys : List T) → AllByRecursion (λ y. num x < num y) ys → AllByRecursion (λ y. num (f x) < num y) (map f ys)
    above [] h = tt
    above (y ∷ ys) h = (less (same x) (same y) h.0, above ys h.1)

  -- where each is below the next
  pub rise_by_next : (xs : List T) → list_all (λ p. nat_lt (num p.0) (num p.1)) (zip xs (drop 1 xs)) ≡ true → AreNumbered num xs
  rise_by_next [] h = tt
  rise_by_next (x ∷ []) h = (tt, tt)
  rise_by_next (x ∷ y ∷ ys) h =
      let parts = and_parts (nat_lt (num x) (num y)) (list_all (λ p. nat_lt (num p.0) (num p.1)) (zip (y ∷ ys) ys)) h in
      let below : num x < num y = grind (arith, nat_tests, parts.0) in
      let rest = rise_by_next (y ∷ ys) parts.1 in
      ((below, each (λ z. num y < num z) (λ z. num x < num z) (λ z more. further below more) ys rest.0), rest) where
        further : {a b c : ℕ} → a < b → b < c → a < c
        further p q = omega arith

  -- what is above the last is above all
  pub all_below : (n : ℕ) (xs : List T) (last : T) → AreNumbered num xs → slice_get xs (length xs - 1) ≡ Some last → num last < n → AllByRecursion (λ x. num x < n) xs
  all_below n [] last up is less = tt
  all_below n (x ∷ []) last up is less = (down (ap num (one is)) less, tt) where
    one : {a b : T} → Some a ≡ Some b → a ≡ b
    one e = cc

    down : {a b : ℕ} → a ≡ b → b < n → a < n
    down e h = omega arith
  all_below n (x ∷ y ∷ ys) last up is less =
      let place : length (x ∷ y ∷ ys) - 1 ≡ suc (length (y ∷ ys) - 1) = omega arith in
      let rest = all_below n (y ∷ ys) last up.1 (ap (λ k. slice_get (x ∷ y ∷ ys) k) (sym place) ∙ is) less in
      (further up.0.0 rest.0, rest) where
        further : {a b : ℕ} → a < b → b < n → a < n
        further p q = omega arith

  -- ---- a binary search by a number

  module _ (n : ℕ) where
    abbrev pub Lacks : List T → Type 0
    Lacks xs = AllByRecursion (λ x. num x ≢ n) xs

    never_falls : (xs : List T) (i j : ℕ) (d : T) → AreNumbered num xs → i ≤ j → j < length xs → num (get_or xs i d) ≤ num (get_or xs j d)
    never_falls [] i j d up le lt = absurd (omega arith)
    never_falls (x ∷ xs) zero zero d up le lt = omega arith
    never_falls (x ∷ xs) zero (suc j) d up le lt = less (at_place (λ y. num x < num y) xs j d up.0 (omega arith)) where
      less : {a b : ℕ} → a < b → a ≤ b
      less h = omega arith
    never_falls (x ∷ xs) (suc i) zero d up le lt = absurd (omega arith)
    never_falls (x ∷ xs) (suc i) (suc j) d up le lt = never_falls xs i j d up.1 (omega arith) (omega arith)

    order_rises : (a b : ℕ) → a ≤ b → ordering_index (nat_cmp a n) ≤ ordering_index (nat_cmp b n)
    order_rises a b le = grind (arith, nat_tests)

    rises : (xs : List T) → AreNumbered num xs → IsNonDecreasingBy (λ y. ordering_index (nat_cmp (num y) n)) xs
    rises xs up i j d le lt = order_rises (num (get_or xs i d)) (num (get_or xs j d)) (never_falls xs i j d up le lt)

    -- where the search ends with a place, that has the number
    pub found : (xs : List T) (k : ℕ) → IsBinarySearchResult (λ y. nat_cmp (num y) n) xs (Ok k) → HoldsAt (λ x. num x ≡ n) xs k
    found xs k equal d = ranked _ n _ (sym (equal d))

    -- where it ends with none, nothing has it
    pub absent : (xs : List T) (k : ℕ) → AreNumbered num xs → k ≤ length xs → IsBinarySearchResult (λ y. nat_cmp (num y) n) xs (Err k) → Lacks xs
    absent xs k up le parted = everywhere (λ x. num x ≢ n) xs (λ i d lt. elim (cases_lt i k) [
      | inl before ↦ below (ranked _ n _ (sym ((parted (rises xs up)).0 i d (omega arith) before)))
      | inr behind ↦ above (ranked _ n _ (sym ((parted (rises xs up)).1 i d behind lt)))
    ]) where
      below : {a : ℕ} → a < n → a ≢ n
      below h e = omega arith

      above : {a : ℕ} → n < a → a ≢ n
      above h e = omega arith

    -- ---- where nothing has the number

    pub none_there : (xs : List T) → Lacks xs → list_any (λ x. eqb (num x) n) xs ≡ false
    none_there [] h = refl
    none_there (x ∷ xs) h = rw (ne_eqb (num x) n h.0) (none_there xs h.1)

    pub none_goes : (xs : List T) → Lacks xs → filter (λ x. not (eqb (num x) n)) xs ≡ xs
    none_goes [] h = refl
    none_goes (x ∷ xs) h = rw (ne_eqb (num x) n h.0) (ap (λ w. x ∷ w) (none_goes xs h.1))

    pub none_changes : (f : T → T) (xs : List T) → Lacks xs → map (λ x. cond (eqb (num x) n) (f x) x) xs ≡ xs
    none_changes f [] h = refl
    none_changes f (x ∷ xs) h = rw (ne_eqb (num x) n h.0) (ap (λ w. x ∷ w) (none_changes f xs h.1))

    -- ---- where the thing at a place has it

    behind : (x : T) (xs : List T) → num x ≡ n → AllByRecursion (λ y. num x < num y) xs → Lacks xs
    behind x xs is h = each (λ y. num x < num y) (λ y. num y ≢ n) (λ y more. apart is more) xs h where
      apart : {a b : ℕ} → a ≡ n → a < b → b ≢ n
      apart p q e = omega arith

    before : (x : T) (xs : List T) (k : ℕ) → AllByRecursion (λ y. num x < num y) xs → k < length xs → HoldsAt (λ y. num y ≡ n) xs k → num x ≢ n
    before x xs k h lt is = apart (at_place (λ y. num x < num y) xs k x h lt) (is x) where
      apart : {a b : ℕ} → a < b → b ≡ n → a ≢ n
      apart p q e = omega arith

    pub it_is_there : (xs : List T) (k : ℕ) → k < length xs → HoldsAt (λ x. num x ≡ n) xs k → list_any (λ x. eqb (num x) n) xs ≡ true
    it_is_there [] k lt is = absurd (omega arith)
    it_is_there (x ∷ xs) k lt is = list_any_at (λ y. eqb (num y) n) (x ∷ xs) k x lt (eq-eqb (num (get_or (x ∷ xs) k x)) n (is x))

    pub it_goes : (xs : List T) (k : ℕ) → AreNumbered num xs → k < length xs → HoldsAt (λ x. num x ≡ n) xs k → filter (λ x. not (eqb (num x) n)) xs ≡ remove xs k
    it_goes [] k up lt is = absurd (omega arith)
    it_goes (x ∷ xs) zero up lt is = rw (eq-eqb (num x) n (is x)) (none_goes xs (behind x xs (is x) up.0))
    it_goes (x ∷ xs) (suc k) up lt is = rw (ne_eqb (num x) n (before x xs k up.0 (omega arith) is)) (ap (λ w. x ∷ w) (it_goes xs k up.1 (omega arith) is))

    pub it_changes : (f : T → T) (xs : List T) (k : ℕ) (y : T) → AreNumbered num xs → k < length xs → HoldsAt (λ x. num x ≡ n) xs k → y ≡ get_or xs k y
        → map (λ x. cond (eqb (num x) n) (f x) x) xs ≡ set xs k (cond (eqb (num y) n) (f y) y)
    it_changes f [] k y up lt is e = absurd (omega arith)
    it_changes f (x ∷ xs) zero y up lt is e =
        rw e (ap (λ w. cond (eqb (num x) n) (f x) x ∷ w) (none_changes f xs (behind x xs (is x) up.0)))
    it_changes f (x ∷ xs) (suc k) y up lt is e =
        rw (ne_eqb (num x) n (before x xs k up.0 (omega arith) is)) (ap (λ w. x ∷ w) (it_changes f xs k y up.1 (omega arith) is e))

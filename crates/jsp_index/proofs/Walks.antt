-- The rows that pass, one after the other.
use Rattle.std.proofs.Common.{◌≡◌, ℕ, zero, suc, ◌+◌, ◌<◌, ◌≤◌, Bool, true, false, cond, ◌&&◌, ◌||◌, nat_lt, List, [], ◌∷◌, ◌++◌, length, take, drop, map, Option, Some, None, refl, ap, sym, ◌∙◌, subst, arith, length-append}
use Rattle.std.specs.Prelude.{find, filter}
use Rattle.std.specs.List.{AllByRecursion, last_or, list_any}
use Rattle.std.proofs.lemmas.List.{map-append}
use Rattle.std.proofs.lemmas.Bool.Decides.{nat_tests}
use Rattle.jsp_model.specs.declared.state.Row.{Row}
use Rattle.jsp_table.specs.Finding.{AreNumbered as AreRising}
use Rattle.jsp_index.specs.Finding.{number, is_next}
use Rattle.jsp_keyed.proofs.Walking.{none_passes, one_passes, same_filter}

some_same : {a b : Row} → Some a ≡ Some b → a ≡ b
some_same e = cc

-- ---- a list taken from its front

-- one more is taken
take_next : (all rest : List Row) (r : Row) (k : ℕ) → drop k all ≡ r ∷ rest → (take (suc k) all ≡ take k all ++ r ∷ []) × (drop (suc k) all ≡ rest)
take_next [] rest r zero h = absurd (cc)
take_next [] rest r (suc k) h = absurd (cc)
take_next (x ∷ all) rest r zero h = (ap (λ w. w ∷ []) (heads h), tails h) where
  heads : {a b : Row} {us vs : List Row} → a ∷ us ≡ b ∷ vs → a ≡ b
  heads e = cc

  tails : {a b : Row} {us vs : List Row} → a ∷ us ≡ b ∷ vs → us ≡ vs
  tails e = cc
take_next (x ∷ all) rest r (suc k) h = let next = take_next all rest r k h in (ap (λ w. x ∷ w) next.0, next.1)

pub all_taken : (all : List Row) (k most : ℕ) → drop k all ≡ [] → k ≤ most → take k all ≡ take most all
all_taken [] zero zero h le = refl
all_taken [] zero (suc most) h le = refl
all_taken [] (suc k) zero h le = refl
all_taken [] (suc k) (suc most) h le = refl
all_taken (x ∷ all) zero most h le = absurd (cc)
all_taken (x ∷ all) (suc k) zero h le = absurd (omega arith)
all_taken (x ∷ all) (suc k) (suc most) h le = ap (λ w. x ∷ w) (all_taken all k most h (omega arith))

module _ (passed : Row → Bool) (rows : List Row) (from : ℕ) where
  abbrev pub walk : List Row
  walk = filter (is_next passed from) rows

  pub walk_more : (after k : ℕ) (r : Row) → AreRising (λ (r : Row). r.number) rows → find (is_next passed after) rows ≡ Some r → drop k walk ≡ filter (is_next passed after) rows → (take (k + 1) walk ≡ take k walk ++ r ∷ []) × (drop (k + 1) walk ≡ filter (is_next passed r.number) rows)
  walk_more after k r up there rest =
      let e : suc k ≡ k + 1 = omega arith in
      subst (λ (n : ℕ). (take n walk ≡ take k walk ++ r ∷ []) × (drop n walk ≡ filter (is_next passed r.number) rows)) e (take_next walk (filter (is_next passed r.number) rows) r k (rest ∙ one_passes number passed after rows r up there))

  pub walk_over : (after k most : ℕ) → find (is_next passed after) rows ≡ None → drop k walk ≡ filter (is_next passed after) rows → k ≤ most → take k walk ≡ take most walk
  walk_over after k most none rest le = all_taken walk k most (rest ∙ none_passes (is_next passed after) rows none) le

  pub mapped_more : {X : Type 0} (f : Row → X) (after k : ℕ) (r : Row) → AreRising (λ (r : Row). r.number) rows → find (is_next passed after) rows ≡ Some r → drop k walk ≡ filter (is_next passed after) rows
      → (xs new : List X) → xs ≡ map f (take k walk) → new ≡ xs ++ f r ∷ [] → new ≡ map f (take (k + 1) walk)
  mapped_more f after k r up there rest xs new so made =
      made ∙ (ap (λ w. w ++ f r ∷ []) so ∙ (sym (map-append f (take k walk) (r ∷ [])) ∙ ap (map f) (sym (walk_more after k r up there rest).0)))

  pub last_is : (after k : ℕ) (r : Row) → AreRising (λ (r : Row). r.number) rows → find (is_next passed after) rows ≡ Some r → drop k walk ≡ filter (is_next passed after) rows
      → Some r.number ≡ last_or None (map (λ (r : Row). r.number) (take (k + 1) walk))
  last_is after k r up there rest = sym (ap (λ w. last_or None (map (λ (r : Row). r.number) w)) (walk_more after k r up there rest).0 ∙ at_end None (take k walk)) where
    at_end : (o : Option ℕ) (xs : List Row) → last_or o (map (λ (r : Row). r.number) (xs ++ r ∷ [])) ≡ Some r.number
    at_end o [] = refl
    at_end o (x ∷ xs) = at_end (Some x.number) xs

  pub length_more : (after k : ℕ) (r : Row) → AreRising (λ (r : Row). r.number) rows → find (is_next passed after) rows ≡ Some r → drop k walk ≡ filter (is_next passed after) rows
      → length (take k walk) + 1 ≡ length (take (k + 1) walk)
  length_more after k r up there rest = sym (ap (λ (w : List Row). length w) (walk_more after k r up there rest).0 ∙ length-append (take k walk) (r ∷ []))

pub map_take : {X : Type 0} (f : Row → X) (k : ℕ) (rows : List Row) → map f (take k rows) ≡ take k (map f rows)
map_take f zero [] = refl
map_take f zero (r ∷ rows) = refl
map_take f (suc k) [] = refl
map_take f (suc k) (r ∷ rows) = ap (λ w. f r ∷ w) (map_take f k rows)

pub length_mapped : {X : Type 0} (f : Row → X) (k : ℕ) (rows : List Row) → length (take k rows) ≡ length (take k (map f rows))
length_mapped f zero [] = refl
length_mapped f zero (r ∷ rows) = refl
length_mapped f (suc k) [] = refl
length_mapped f (suc k) (r ∷ rows) = ap suc (length_mapped f k rows)

-- ---- named rows

pub map_same : (rows : List Row) → map (λ (r : Row). r) rows ≡ rows
map_same [] = refl
map_same (r ∷ rows) = ap (λ w. r ∷ w) (map_same rows)

module _ (P : Row → Type 0) (p : Row → Bool) where
  pub named_filter : (c : Row → Bool) (rows : List Row) → AllByRecursion (λ r. 0 < r.number) rows → AllByRecursion P rows → ((r : Row) → P r → p r ≡ true → c r ≡ true) → filter (is_next (λ r. c r && p r) 0) rows ≡ filter p rows
  named_filter c rows up known named = same_filter (is_next (λ r. c r && p r) 0) p rows (both_known rows up known) where
    yes : (n : ℕ) → 0 < n → nat_lt 0 n ≡ true
    yes n lt = grind (arith, nat_tests)

    at : (r : Row) → P r → (b : Bool) → p r ≡ b → (c r && b) ≡ b
    at r h true e = rw (named r h e) refl
    at r h false e = last (c r) where
      last : (a : Bool) → (a && false) ≡ false
      last true = refl
      last false = refl

    both_known : (rows : List Row) → AllByRecursion (λ r. 0 < r.number) rows → AllByRecursion P rows → AllByRecursion (λ r. is_next (λ r. c r && p r) 0 r ≡ p r) rows
    both_known [] u k = tt
    both_known (r ∷ rows) u k = (rw (yes r.number u.0) (at r k.0 (p r) refl), both_known rows u.1 k.1)

  pub none_filter : (rows : List Row) → AllByRecursion P rows → ((r : Row) → P r → p r ≡ false) → filter p rows ≡ []
  none_filter [] known none = refl
  none_filter (r ∷ rows) known none = rw (none r known.0) (none_filter rows known.1 none)

pub any_empty : (p : Row → Bool) (rows : List Row) → filter p rows ≡ [] → list_any p rows ≡ false
any_empty p [] h = refl
any_empty p (r ∷ rows) h = at (p r) refl (any_empty p rows) where
  at : (b : Bool) → p r ≡ b → (filter p rows ≡ [] → list_any p rows ≡ false) → list_any p (r ∷ rows) ≡ false
  at true e rest = absurd (cc (h, ap (λ b. cond b (r ∷ filter p rows) (filter p rows)) e))
  at false e rest = rw e (rest (ap (λ b. cond b (r ∷ filter p rows) (filter p rows)) (sym e) ∙ h))

-- whether one passes is seen from those that do
abbrev is_filled : List Row → Bool
is_filled [] = false
is_filled (r ∷ rows) = true

any_filled : (p : Row → Bool) (rows : List Row) → list_any p rows ≡ is_filled (filter p rows)
any_filled p [] = refl
any_filled p (r ∷ rows) = at (p r) (any_filled p rows) where
  at : (b : Bool) → list_any p rows ≡ is_filled (filter p rows) → (b || list_any p rows) ≡ is_filled (cond b (r ∷ filter p rows) (filter p rows))
  at true rest = refl
  at false rest = rest

pub any_same : (p q : Row → Bool) (rows : List Row) → filter p rows ≡ filter q rows → list_any p rows ≡ list_any q rows
any_same p q rows e = any_filled p rows ∙ (ap is_filled e ∙ sym (any_filled q rows))

-- The things that pass, one after the other.
use Rattle.std.proofs.Common.{◌≡◌, ℕ, ◌+◌, ◌<◌, Bool, true, false, cond, eqb, ◌&&◌, nat_lt, List, [], ◌∷◌, ◌++◌, length, map, Some, None, refl, ap, sym, ◌∙◌, subst, arith, append_assoc, inl, inr}
use Rattle.std.specs.Prelude.{find, filter}
use Rattle.std.specs.List.{AllByRecursion}
use Rattle.std.proofs.lemmas.List.{append-nil}
use Rattle.std.proofs.lemmas.Bool.{cases_eq, eq-eqb, ne_eqb}
use Rattle.std.proofs.lemmas.Bool.Decides.{nat_tests}
use Rattle.jsp_table.specs.Finding.{numbered, AreNumbered}
use Rattle.jsp_table.proofs.Finding.{each}
use Rattle.jsp_keyed.specs.Finding.{is_next}

pub and_both : (a b : Bool) → (a && b) ≡ true → (a ≡ true) × (b ≡ true)
and_both true b h = (refl, h)
and_both false b h = absurd (cc)

pub eqb_eq : (a b : ℕ) → eqb a b ≡ true → a ≡ b
eqb_eq a b h = elim (cases_eq a b) [ inl e ↦ e | inr ne ↦ absurd (cc (ne_eqb a b ne, h)) ]

some_same : {X : Type 0} {a b : X} → Some a ≡ Some b → a ≡ b
some_same e = cc

module _ {T : Type 0} where
  pub none_passes : (q : T → Bool) (xs : List T) → find q xs ≡ None → filter q xs ≡ []
  none_passes q [] h = refl
  none_passes q (x ∷ xs) h = at (q x) refl (none_passes q xs) where
    at : (b : Bool) → q x ≡ b → (find q xs ≡ None → filter q xs ≡ []) → filter q (x ∷ xs) ≡ []
    at true e rest = absurd (cc (h, ap (λ b. cond b (Some x) (find q xs)) e))
    at false e rest = rw e (rest (ap (λ b. cond b (Some x) (find q xs)) (sym e) ∙ h))

  pub same_filter : (q t : T → Bool) (xs : List T) → AllByRecursion (λ r. q r ≡ t r) xs → filter q xs ≡ filter t xs
  same_filter q t [] h = refl
  same_filter q t (x ∷ xs) h = rw h.0 (ap (λ w. cond (t x) (x ∷ w) w) (same_filter q t xs h.1))

module _ {T : Type 0} (num : T → ℕ) where
  -- all of the number are the one that is found
  pub only_one : (n : ℕ) (xs : List T) (r : T) → AreNumbered num xs → numbered num n xs ≡ Some r → AllByRecursion (λ x. num x ≡ n → x ≡ r) xs
  only_one n [] r up is = tt
  only_one n (x ∷ xs) r up is = elim (cases_eq (num x) n) [
    | inl e ↦ this e (some_same (ap (λ b. cond b (Some x) (numbered num n xs)) (sym (eq-eqb (num x) n e)) ∙ is))
    | inr ne ↦ let there = ap (λ b. cond b (Some x) (numbered num n xs)) (sym (ne_eqb (num x) n ne)) ∙ is in ((λ e. absurd (ne e)), only_one n xs r up.1 there)
  ] where
    apart : {a b : ℕ} → a ≡ n → a < b → b ≡ n → ⊥
    apart p q s = omega arith

    this : num x ≡ n → x ≡ r → (num x ≡ n → x ≡ r) × AllByRecursion (λ x. num x ≡ n → x ≡ r) xs
    this e same = ((λ _. same), each (λ y. num x < num y) (λ y. num y ≡ n → y ≡ r) xs up.0 (λ y lt f. absurd (apart e lt f)))

  -- ---- from the start

  next_find : (p : T → Bool) (xs : List T) → AllByRecursion (λ r. is_next num p 0 r ≡ p r) xs → find (is_next num p 0) xs ≡ find p xs
  next_find p [] h = refl
  next_find p (x ∷ xs) h = rw (h.0, next_find p xs h.1) refl

  start_same : (p : T → Bool) (xs : List T) → AllByRecursion (λ r. 0 < num r) xs → AllByRecursion (λ r. is_next num p 0 r ≡ p r) xs
  start_same p xs h = each (λ r. 0 < num r) (λ r. is_next num p 0 r ≡ p r) xs h (λ r lt. rw (yes (num r) lt) refl) where
    yes : (n : ℕ) → 0 < n → nat_lt 0 n ≡ true
    yes n lt = grind (arith, nat_tests)

  pub start_find : (p : T → Bool) (xs : List T) → AllByRecursion (λ r. 0 < num r) xs → find (is_next num p 0) xs ≡ find p xs
  start_find p xs h = next_find p xs (start_same p xs h)

  -- ---- above a number

  module _ (passed : T → Bool) where
    -- a row that isn't above a number that another one is above
    next_same : (after : ℕ) (x : T) (xs : List T) → after < num x → AllByRecursion (λ y. num x < num y) xs → AllByRecursion (λ r. is_next num passed after r ≡ is_next num passed (num x) r) xs
    next_same after x xs lt h = each (λ y. num x < num y) (λ r. is_next num passed after r ≡ is_next num passed (num x) r) xs h (λ y less. rw (yes after (num y) (over less), yes (num x) (num y) less) refl) where
      over : {n : ℕ} → num x < n → after < n
      over less = omega arith

      yes : (a b : ℕ) → a < b → nat_lt a b ≡ true
      yes a b h = grind (arith, nat_tests)

    first_is_above : (after : ℕ) (r : T) → is_next num passed after r ≡ true → after < num r
    first_is_above after r h = less after (num r) (and_both (nat_lt after (num r)) (passed r) h).0 where
      less : (a b : ℕ) → nat_lt a b ≡ true → a < b
      less a b h = grind (arith, nat_tests)

    not_itself : (r : T) → is_next num passed (num r) r ≡ false
    not_itself r = rw (no (num r)) refl where
      no : (a : ℕ) → nat_lt a a ≡ false
      no a = grind (arith, nat_tests)

    -- a row before the one that is found isn't above it
    not_before : (x : T) (xs : List T) (r : T) (q : T → Bool) → AllByRecursion (λ y. num x < num y) xs → find q xs ≡ Some r → is_next num passed (num r) x ≡ false
    not_before x xs r q h is = rw (no (num r) (num x) (less xs h is)) refl where
      no : (a b : ℕ) → b < a → nat_lt a b ≡ false
      no a b lt = grind (arith, nat_tests)

      less : (xs : List T) → AllByRecursion (λ y. num x < num y) xs → find q xs ≡ Some r → num x < num r
      less [] h is = absurd (cc)
      less (y ∷ xs) h is = at (q y) refl (less xs h.1) where
        at : (b : Bool) → q y ≡ b → (find q xs ≡ Some r → num x < num r) → num x < num r
        at true e rest = subst (λ (z : T). num x < num z) (some_same (ap (λ b. cond b (Some y) (find q xs)) (sym e) ∙ is)) h.0
        at false e rest = rest (ap (λ b. cond b (Some y) (find q xs)) (sym e) ∙ is)

    -- one step
    pub one_passes : (after : ℕ) (xs : List T) (r : T) → AreNumbered num xs → find (is_next num passed after) xs ≡ Some r → filter (is_next num passed after) xs ≡ r ∷ filter (is_next num passed (num r)) xs
    one_passes after [] r up is = absurd (cc)
    one_passes after (x ∷ xs) r up is = at (is_next num passed after x) refl (one_passes after xs r up.1) where
      at : (b : Bool) → is_next num passed after x ≡ b → (find (is_next num passed after) xs ≡ Some r → filter (is_next num passed after) xs ≡ r ∷ filter (is_next num passed (num r)) xs)
          → cond b (x ∷ filter (is_next num passed after) xs) (filter (is_next num passed after) xs) ≡ r ∷ cond (is_next num passed (num r) x) (x ∷ filter (is_next num passed (num r)) xs) (filter (is_next num passed (num r)) xs)
      at true e rest =
          let same : x ≡ r = some_same (ap (λ b. cond b (Some x) (find (is_next num passed after) xs)) (sym e) ∙ is) in
          let out : is_next num passed (num r) x ≡ false = ap (λ (z : T). is_next num passed (num z) x) (sym same) ∙ not_itself x in
          let tail : filter (is_next num passed after) xs ≡ filter (is_next num passed (num r)) xs = same_filter (is_next num passed after) (is_next num passed (num x)) xs (next_same after x xs (first_is_above after x e) up.0) ∙ ap (λ (z : T). filter (is_next num passed (num z)) xs) same in
          rw out (both same tail) where
            both : {a b : T} {us vs : List T} → a ≡ b → us ≡ vs → a ∷ us ≡ b ∷ vs
            both p q = cc
      at false e rest =
          let there : find (is_next num passed after) xs ≡ Some r = ap (λ b. cond b (Some x) (find (is_next num passed after) xs)) (sym e) ∙ is in
          rw (not_before x xs r (is_next num passed after) up.0 there) (rest there)

    pub from_start : (xs : List T) → AllByRecursion (λ r. 0 < num r) xs → filter (is_next num passed 0) xs ≡ filter passed xs
    from_start xs h = same_filter (is_next num passed 0) passed xs (each (λ r. 0 < num r) (λ r. is_next num passed 0 r ≡ passed r) xs h (λ r lt. rw (yes (num r) lt) refl)) where
      yes : (n : ℕ) → 0 < n → nat_lt 0 n ≡ true
      yes n lt = grind (arith, nat_tests)

  pub found_is_above : (passed : T → Bool) (after : ℕ) (xs : List T) (x : T) → find (is_next num passed after) xs ≡ Some x → after < num x
  found_is_above passed after [] x is = absurd (cc)
  found_is_above passed after (y ∷ xs) x is = at (is_next num passed after y) refl (found_is_above passed after xs x) where
    at : (b : Bool) → is_next num passed after y ≡ b → (find (is_next num passed after) xs ≡ Some x → after < num x) → after < num x
    at true e rest = subst (λ (z : T). after < num z) (some_same (ap (λ b. cond b (Some y) (find (is_next num passed after) xs)) (sym e) ∙ is)) (first_is_above passed after y e)
    at false e rest = rest (ap (λ b. cond b (Some y) (find (is_next num passed after) xs)) (sym e) ∙ is)

  -- ---- what is gathered on the way

  pub listed_more : {X : Type 0} (f : T → X) (xs new : List X) (r : T) (rest now : List T) (all : List X) → now ≡ r ∷ rest → xs ++ map f now ≡ all → new ≡ xs ++ f r ∷ [] → new ++ map f rest ≡ all
  listed_more f xs new r rest now all is so made = ap (λ w. w ++ map f rest) made ∙ (append_assoc xs (f r ∷ []) (map f rest) ∙ (ap (λ w. xs ++ map f w) (sym is) ∙ so))

  pub listed_all : {X : Type 0} (f : T → X) (xs : List X) (now : List T) (all : List X) → now ≡ [] → xs ++ map f now ≡ all → xs ≡ all
  listed_all f xs now all is so = sym (append-nil xs) ∙ (ap (λ w. xs ++ map f w) (sym is) ∙ so)

  pub counted_more : (n m : ℕ) (r : T) (rest now : List T) → now ≡ r ∷ rest → n + length now ≡ m → n + 1 + length rest ≡ m
  counted_more n m r rest now is so = let e : length now ≡ length (r ∷ rest) = ap length is in omega (arith, e, so)

  pub counted_all : (n m : ℕ) (now : List T) → now ≡ [] → n + length now ≡ m → n ≡ m
  counted_all n m now is so = let e : length now ≡ 0 = ap length is in omega (arith, e, so)

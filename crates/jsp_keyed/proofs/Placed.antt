-- What stands at places, and what is found there.
use Rattle.std.proofs.Common.{◌≡◌, ℕ, zero, suc, ◌+◌, ◌<◌, Bool, true, false, cond, ◌||◌, ◌&&◌, ◌≤◌, eqb, List, [], ◌∷◌, ◌++◌, length, take, get_or, Option, Some, None, refl, ap, sym, ◌∙◌, arith, inl, inr}
use Rattle.std.specs.Prelude.{find, filter, is_none, is_some}
use Rattle.std.specs.List.{AllByRecursion, list_any, list_all}
use Rattle.std.specs.Option.{option_map_or}
use Rattle.std.proofs.lemmas.Bool.{cases_eq, eq-eqb, ne_eqb}
use Rattle.std.proofs.lemmas.List.{take_more}
use Rattle.jsp_table.specs.Finding.{numbered, AreNumbered}
use Rattle.jsp_table.specs.Places.{living}
use Rattle.jsp_table.proofs.Standing.{living_append}

module _ {T : Type 0} where
  pub living_more : (places : List (Option T)) (i : ℕ) (place : Option T) → i < length places → place ≡ get_or places i place → living (take (i + 1) places) ≡ living (take i places) ++ living (place ∷ [])
  living_more places i place lt is = ap living (take_more places i place lt ∙ ap (λ w. take i places ++ w ∷ []) (sym is)) ∙ living_append (take i places) (place ∷ [])

  none_more : (p : T → Bool) (xs ys : List T) → find p xs ≡ None → find p (xs ++ ys) ≡ find p ys
  none_more p [] ys h = refl
  none_more p (x ∷ xs) ys h = at (p x) refl (none_more p xs ys) where
    at : (b : Bool) → p x ≡ b → (find p xs ≡ None → find p (xs ++ ys) ≡ find p ys) → find p ((x ∷ xs) ++ ys) ≡ find p ys
    at true e rest = absurd (cc (h, ap (λ b. cond b (Some x) (find p xs)) e))
    at false e rest = rw e (rest (ap (λ b. cond b (Some x) (find p xs)) (sym e) ∙ h))

  place_split : (places : List (Option T)) (i : ℕ) (x : T) → i < length places → Some x ≡ get_or places i (Some x) → (rest : List T) × (living places ≡ living (take i places) ++ x ∷ rest)
  place_split [] i x lt is = absurd (omega arith)
  place_split (place ∷ places) zero x lt is = (living places, rw (← is) refl)
  place_split (None ∷ places) (suc i) x lt is = place_split places i x (omega arith) is
  place_split (Some y ∷ places) (suc i) x lt is = let more = place_split places i x (omega arith) is in (more.0, ap (λ w. y ∷ w) more.1)

  -- the first place whose thing passes has the first thing that does
  pub found_at : (p : T → Bool) (places : List (Option T)) (i : ℕ) (x : T) → i < length places → Some x ≡ get_or places i (Some x) → p x ≡ true → find p (living (take i places)) ≡ None → Some x ≡ find p (living places)
  found_at p places i x lt is passes none =
      let parts = place_split places i x lt is in
      sym (ap (find p) parts.1 ∙ (none_more p (living (take i places)) (x ∷ parts.0) none ∙ ap (λ b. cond b (Some x) (find p parts.0)) passes))

  pub none_passes_more : (p : T → Bool) (xs ys : List T) → find p xs ≡ None → find p ys ≡ None → find p (xs ++ ys) ≡ None
  none_passes_more p xs ys h k = none_more p xs ys h ∙ k

  -- a search finds something where one passes
  pub any_is : (p : T → Bool) (xs : List T) → is_some (find p xs) ≡ list_any p xs
  any_is p [] = refl
  any_is p (x ∷ xs) = at (p x) (any_is p xs) where
    at : (b : Bool) → is_some (find p xs) ≡ list_any p xs → is_some (cond b (Some x) (find p xs)) ≡ (b || list_any p xs)
    at true e = refl
    at false e = e

  none_of : (num : T → ℕ) (n : ℕ) (xs : List T) → AllByRecursion (λ y. n < num y) xs → filter (λ y. eqb (num y) n) xs ≡ []
  none_of num n [] h = refl
  none_of num n (y ∷ xs) h = rw (ne_eqb (num y) n (apart h.0)) (none_of num n xs h.1) where
    apart : n < num y → num y ≡ n → ⊥
    apart lt e = omega arith

  -- of a number there is one at most
  pub only_numbered : (num : T → ℕ) (n : ℕ) (xs : List T) → AreNumbered num xs → (o : Option T) → o ≡ numbered num n xs → filter (λ y. eqb (num y) n) xs ≡ living (o ∷ [])
  only_numbered num n [] up o is = rw is refl
  only_numbered num n (x ∷ xs) up o is = elim (cases_eq (num x) n) [
    | inl e ↦ this e (is ∙ ap (λ b. cond b (Some x) (numbered num n xs)) (eq-eqb (num x) n e))
    | inr ne ↦ rw (ne_eqb (num x) n ne) (only_numbered num n xs up.1 o (is ∙ ap (λ b. cond b (Some x) (numbered num n xs)) (ne_eqb (num x) n ne)))
  ] where
    over : (xs : List T) → num x ≡ n → AllByRecursion (λ y. num x < num y) xs → AllByRecursion (λ y. n < num y) xs
    over [] e h = tt
    over (y ∷ xs) e h = (omega (arith, e, h.0), over xs e h.1)

    this : num x ≡ n → o ≡ Some x → filter (λ y. eqb (num y) n) (x ∷ xs) ≡ living (o ∷ [])
    this e s = rw (eq-eqb (num x) n e, s) (ap (λ w. x ∷ w) (none_of num n xs (over xs e up.0)))

  -- as many stand as there are places that aren't empty, and no more than there are places
  pub living_count : (places : List (Option T)) → length (filter is_some places) ≡ length (living places)
  living_count [] = refl
  living_count (None ∷ places) = living_count places
  living_count (Some x ∷ places) = ap suc (living_count places)

  -- nothing stands there
  pub none_living : (places : List (Option T)) → list_all is_none places ≡ eqb (length (living places)) 0
  none_living [] = refl
  none_living (None ∷ places) = none_living places
  none_living (Some x ∷ places) = sym (ne_eqb (suc (length (living places))) 0 (λ e. omega (arith, e)))

  pub living_fewer : (places : List (Option T)) → length (living places) ≤ length places
  living_fewer [] = omega arith
  living_fewer (None ∷ places) = omega (arith, living_fewer places)
  living_fewer (Some x ∷ places) = omega (arith, living_fewer places)

  pub all_pass : (xs : List T) → filter (λ _. true) xs ≡ xs
  all_pass [] = refl
  all_pass (x ∷ xs) = ap (λ w. x ∷ w) (all_pass xs)

  none_any : (num : T → ℕ) (n : ℕ) (p : T → Bool) (xs : List T) → AllByRecursion (λ y. n < num y) xs → list_any (λ y. eqb (num y) n && p y) xs ≡ false
  none_any num n p [] h = refl
  none_any num n p (y ∷ xs) h = rw (ne_eqb (num y) n (apart h.0)) (none_any num n p xs h.1) where
    apart : n < num y → num y ≡ n → ⊥
    apart lt e = omega arith

  -- one of a number passes where the one that is found does
  pub any_numbered : (num : T → ℕ) (n : ℕ) (p : T → Bool) (xs : List T) → AreNumbered num xs → (o : Option T) → o ≡ numbered num n xs → option_map_or p o false ≡ list_any (λ y. eqb (num y) n && p y) xs
  any_numbered num n p [] up o is = rw is refl
  any_numbered num n p (x ∷ xs) up o is = elim (cases_eq (num x) n) [
    | inl e ↦ this e (is ∙ ap (λ b. cond b (Some x) (numbered num n xs)) (eq-eqb (num x) n e))
    | inr ne ↦ rw (ne_eqb (num x) n ne) (any_numbered num n p xs up.1 o (is ∙ ap (λ b. cond b (Some x) (numbered num n xs)) (ne_eqb (num x) n ne)))
  ] where
    over : (xs : List T) → num x ≡ n → AllByRecursion (λ y. num x < num y) xs → AllByRecursion (λ y. n < num y) xs
    over [] e h = tt
    over (y ∷ xs) e h = (omega (arith, e, h.0), over xs e h.1)

    or_none : (a b : Bool) → b ≡ false → (a || b) ≡ a
    or_none true b h = refl
    or_none false b h = h

    this : num x ≡ n → o ≡ Some x → option_map_or p o false ≡ list_any (λ y. eqb (num y) n && p y) (x ∷ xs)
    this e s = rw (s, eq-eqb (num x) n e) (sym (or_none (p x) (list_any (λ y. eqb (num y) n && p y) xs) (none_any num n p xs (over xs e up.0))))

  none_found : (num : T → ℕ) (n : ℕ) (p : T → Bool) (xs : List T) → AllByRecursion (λ y. n < num y) xs → find (λ y. eqb (num y) n && p y) xs ≡ None
  none_found num n p [] h = refl
  none_found num n p (y ∷ xs) h = rw (ne_eqb (num y) n (apart h.0)) (none_found num n p xs h.1) where
    apart : n < num y → num y ≡ n → ⊥
    apart lt e = omega arith

  -- the one of a number, where it passes
  pub found_numbered : (num : T → ℕ) (n : ℕ) (p : T → Bool) (xs : List T) → AreNumbered num xs → (o : Option T) → o ≡ numbered num n xs → find p (living (o ∷ [])) ≡ find (λ y. eqb (num y) n && p y) xs
  found_numbered num n p [] up o is = rw is refl
  found_numbered num n p (x ∷ xs) up o is = elim (cases_eq (num x) n) [
    | inl e ↦ this e (is ∙ ap (λ b. cond b (Some x) (numbered num n xs)) (eq-eqb (num x) n e))
    | inr ne ↦ rw (ne_eqb (num x) n ne) (found_numbered num n p xs up.1 o (is ∙ ap (λ b. cond b (Some x) (numbered num n xs)) (ne_eqb (num x) n ne)))
  ] where
    over : (xs : List T) → num x ≡ n → AllByRecursion (λ y. num x < num y) xs → AllByRecursion (λ y. n < num y) xs
    over [] e h = tt
    over (y ∷ xs) e h = (omega (arith, e, h.0), over xs e h.1)

    this : num x ≡ n → o ≡ Some x → find p (living (o ∷ [])) ≡ find (λ y. eqb (num y) n && p y) (x ∷ xs)
    this e s = rw (s, eq-eqb (num x) n e) (ap (λ w. cond (p x) (Some x) w) (sym (none_found num n p xs (over xs e up.0))))

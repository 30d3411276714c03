-- Those that pass change one after the other, and change back.
use Rattle.std.proofs.Common.{◌≡◌, ◌≢◌, ℕ, ◌<◌, ◌≤◌, Bool, true, false, cond, eqb, ◌&&◌, nat_lt, List, [], ◌∷◌, map, Some, None, refl, ap, sym, ◌∙◌, subst, arith, inl, inr}
use Rattle.std.specs.Prelude.{find, nat_le}
use Rattle.std.specs.List.{AllByRecursion}
use Rattle.std.proofs.lemmas.Bool.{cases_order, eq-eqb, ne_eqb}
use Rattle.std.proofs.lemmas.Bool.Decides.{nat_tests}
use Rattle.jsp_table.specs.Numbers.{contains}
use Rattle.jsp_table.specs.Finding.{AreNumbered, AreNamed}
use Rattle.jsp_table.proofs.Finding.{each}
use Rattle.jsp_keyed.specs.Finding.{is_next, IsUpTo, IsLeast}
use Rattle.jsp_keyed.specs.Changing.{IsUndone, where_passed}
use Rattle.jsp_keyed.proofs.Least.{found_least}
use Rattle.jsp_keyed.proofs.Walking.{and_both, only_one}

same_lists : {X : Type 0} {x y : X} {xs ys : List X} → x ≡ y → xs ≡ ys → x ∷ xs ≡ y ∷ ys
same_lists e h = cc

is_over : (a b : ℕ) → nat_lt a b ≡ true → a < b
is_over a b h = grind (arith, nat_tests)

is_up_to : (a b : ℕ) → nat_le a b ≡ true → a ≤ b
is_up_to a b h = grind (arith, nat_tests)

isnt_up_to : (a b : ℕ) → nat_le a b ≡ false → b < a
isnt_up_to a b h = grind (arith, nat_tests)

up_to_yes : (a b : ℕ) → a ≤ b → nat_le a b ≡ true
up_to_yes a b h = grind (arith, nat_tests)

up_to_no : (a b : ℕ) → b < a → nat_le a b ≡ false
up_to_no a b h = grind (arith, nat_tests)

over_yes : (a b : ℕ) → a < b → nat_lt a b ≡ true
over_yes a b h = grind (arith, nat_tests)

less_differs : {a b : ℕ} → a < b → a ≢ b
less_differs lt e = omega arith

more_differs : {a b : ℕ} → b < a → a ≢ b
more_differs lt e = omega arith

module _ {T : Type 0} (num : T → ℕ) (passed : T → Bool) (changed : T → T) where
  -- those whose numbers are up to this one have changed
  abbrev pub up_to : ℕ → T → T
  up_to last x = cond (nat_le (num x) last) (where_passed passed changed x) x

  number_kept : ((x : T) → num (changed x) ≡ num x) → (x : T) → num (where_passed passed changed x) ≡ num x
  number_kept keeps x = at (passed x) where
    at : (b : Bool) → num (cond b (changed x) x) ≡ num x
    at true = keeps x
    at false = refl

  -- ---- one more

  module _ (keeps : (x : T) → num (changed x) ≡ num x) (last : ℕ) (x : T) (above : last < num x) (passes : passed x ≡ true) where
    not_yet : (y : T) → last < num y → (is_next num passed last y ≡ true → num x ≤ num y) → (num y ≡ num x → y ≡ x)
        → cond (eqb (num y) (num x)) (changed y) y ≡ cond (nat_le (num y) (num x)) (where_passed passed changed y) y
    not_yet y over least one = elim (cases_order (num y) (num x)) [
      | inl e ↦ rw (eq-eqb (num y) (num x) e, up_to_yes (num y) (num x) (omega (arith, e)), ap passed (one e) ∙ passes) refl
      | inr o ↦ elim o [
        | inl lt ↦ rw (ne_eqb (num y) (num x) (less_differs lt), up_to_yes (num y) (num x) (omega (arith, lt)), fails lt (passed y) refl) refl
        | inr gt ↦ rw (ne_eqb (num y) (num x) (more_differs gt), up_to_no (num y) (num x) gt) refl
      ]
    ] where
      before : num y < num x → num x ≤ num y → ⊥
      before lt le = omega arith

      fails : num y < num x → (b : Bool) → passed y ≡ b → passed y ≡ false
      fails lt true e = absurd (before lt (least (rw (over_yes last (num y) over, e) refl)))
      fails lt false e = e

    one_changes : (y : T) → (is_next num passed last (up_to last y) ≡ true → num x ≤ num (up_to last y)) → (num (up_to last y) ≡ num x → up_to last y ≡ x)
        → cond (eqb (num (up_to last y)) (num x)) (changed (up_to last y)) (up_to last y) ≡ up_to (num x) y
    one_changes y = at (nat_le (num y) last) refl where
      under : num y ≤ last → num (where_passed passed changed y) ≡ num y → num (where_passed passed changed y) < num x
      under le e = omega arith

      up : num y ≤ last → num y ≤ num x
      up le = omega (arith, above)

      at : (b : Bool) → nat_le (num y) last ≡ b → (is_next num passed last (cond b (where_passed passed changed y) y) ≡ true → num x ≤ num (cond b (where_passed passed changed y) y)) → (num (cond b (where_passed passed changed y) y) ≡ num x → cond b (where_passed passed changed y) y ≡ x)
          → cond (eqb (num (cond b (where_passed passed changed y) y)) (num x)) (changed (cond b (where_passed passed changed y) y)) (cond b (where_passed passed changed y) y) ≡ cond (nat_le (num y) (num x)) (where_passed passed changed y) y
      at true e least one =
          let le = is_up_to (num y) last e in
          rw (ne_eqb (num (where_passed passed changed y)) (num x) (less_differs (under le (number_kept keeps y))), up_to_yes (num y) (num x) (up le)) refl
      at false e least one = not_yet y (isnt_up_to (num y) last e) least one

    all_change : (xs : List T) → AllByRecursion (λ w. is_next num passed last w ≡ true → num x ≤ num w) (map (up_to last) xs) → AllByRecursion (λ w. num w ≡ num x → w ≡ x) (map (up_to last) xs)
        → map (λ w. cond (eqb (num w) (num x)) (changed w) w) (map (up_to last) xs) ≡ map (up_to (num x)) xs
    all_change [] h k = refl
    all_change (y ∷ xs) h k = same_lists (one_changes y h.0 k.0) (all_change xs h.1 k.1)

  least_of : (last : ℕ) (xs : List T) (x : T) → AreNumbered num xs → Some x ≡ find (is_next num passed last) xs → IsLeast num (is_next num passed last) (is_next num passed last) xs (Some x)
  least_of last xs x up is =
      let p = is_next num passed last in
      subst (λ o. IsLeast num p p xs o) (sym is) (found_least num p p p xs up (λ r h. h) (λ r h k. h))

  -- the next one that passes has changed too
  pub next_changes : ((x : T) → num (changed x) ≡ num x) → (last : ℕ) (xs : List T) (x : T) → AreNumbered num (map (up_to last) xs) → Some x ≡ find (is_next num passed last) (map (up_to last) xs)
      → map (λ w. cond (eqb (num w) (num x)) (changed w) w) (map (up_to last) xs) ≡ map (up_to (num x)) xs
  next_changes keeps last xs x up is =
      let p = is_next num passed last in
      let ys = map (up_to last) xs in
      let least = least_of last ys x up is in
      let two = and_both (nat_lt last (num x)) (passed x) least.one.0 in
      all_change keeps last x (is_over last (num x) two.0) two.1 xs
      (each (λ w. p w ≡ true → p w ≡ true → IsUpTo num (Some x) (num w)) (λ w. p w ≡ true → num x ≤ num w) ys least.least (λ w h e. h e e))
      (only_one num (num x) ys x up least.one.1)

  -- ---- the start and the end

  pub none_changed : (xs : List T) → AllByRecursion (λ x. 0 < num x) xs → xs ≡ map (up_to 0) xs
  none_changed [] h = refl
  none_changed (x ∷ xs) h = same_lists (rw (up_to_no (num x) 0 h.0) refl) (none_changed xs h.1)

  pub all_changed : (last : ℕ) (xs : List T) → None ≡ find (is_next num passed last) (map (up_to last) xs) → map (up_to last) xs ≡ map (where_passed passed changed) xs
  all_changed last [] h = refl
  all_changed last (y ∷ xs) h = at (is_next num passed last (up_to last y)) refl (all_changed last xs) where
    stays : (b : Bool) → nat_le (num y) last ≡ b → is_next num passed last (cond b (where_passed passed changed y) y) ≡ false → cond b (where_passed passed changed y) y ≡ where_passed passed changed y
    stays true e f = refl
    stays false e f = rw (subst (λ (c : Bool). (c && passed y) ≡ false) (over_yes last (num y) (isnt_up_to (num y) last e)) f) refl

    at : (b : Bool) → is_next num passed last (up_to last y) ≡ b → (None ≡ find (is_next num passed last) (map (up_to last) xs) → map (up_to last) xs ≡ map (where_passed passed changed) xs)
        → map (up_to last) (y ∷ xs) ≡ map (where_passed passed changed) (y ∷ xs)
    at true e rest = absurd (cc (h, ap (λ b. cond b (Some (up_to last y)) (find (is_next num passed last) (map (up_to last) xs))) e))
    at false e rest = same_lists (stays (nat_le (num y) last) refl e) (rest (h ∙ ap (λ b. cond b (Some (up_to last y)) (find (is_next num passed last) (map (up_to last) xs))) e))

  -- what passes stays named
  pub still_named : ((x : T) → num (changed x) ≡ num x) → (last : ℕ) (ns : List ℕ) (xs : List T) → AreNamed num passed ns xs → AreNamed num passed ns (map (up_to last) xs)
  still_named keeps last ns [] h = tt
  still_named keeps last ns (x ∷ xs) h = (at (nat_le (num x) last) (passed x) refl, still_named keeps last ns xs h.1) where
    at : (b c : Bool) → passed x ≡ c → passed (cond b (cond c (changed x) x) x) ≡ true → contains ns (num (cond b (cond c (changed x) x) x)) ≡ true
    at true true e p = rw (keeps x) (h.0 e)
    at true false e p = h.0 p
    at false c e p = h.0 p

  -- ---- back

  module _ (undo : T → T) (undone : IsUndone passed changed undo) (keeps : (x : T) → num (changed x) ≡ num x) (last : ℕ) where
    abbrev pub those : T → Bool
    those x = nat_le (num x) last && passed x

    one_back : (y : T) → where_passed those undo (up_to last y) ≡ y
    one_back y = at (nat_le (num y) last) refl where
      here : (c : Bool) → passed y ≡ c → nat_le (num y) last ≡ true → cond (nat_le (num (cond c (changed y) y)) last && passed (cond c (changed y) y)) (undo (cond c (changed y) y)) (cond c (changed y) y) ≡ y
      here true p e = rw (keeps y, e, undone.passes y, p) (undone.back y)
      here false p e = rw (e, p) refl

      at : (b : Bool) → nat_le (num y) last ≡ b → cond (nat_le (num (cond b (where_passed passed changed y) y)) last && passed (cond b (where_passed passed changed y) y)) (undo (cond b (where_passed passed changed y) y)) (cond b (where_passed passed changed y) y) ≡ y
      at true e = here (passed y) refl e
      at false e = rw e refl

    pub all_back : (xs : List T) → map (where_passed those undo) (map (up_to last) xs) ≡ xs
    all_back [] = refl
    all_back (y ∷ xs) = same_lists (one_back y) (all_back xs)

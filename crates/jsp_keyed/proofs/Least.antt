-- The first thing that passes, of parts that are found each for itself.
use Rattle.std.proofs.Common.{◌≡◌, ◌≢◌, ℕ, ◌<◌, ◌≤◌, Bool, true, false, cond, List, [], ◌∷◌, Option, Some, None, refl, ap, sym, ◌∙◌, arith, inl, inr, ◌⊎◌}
use Rattle.std.specs.Prelude.{find, nat_le}
use Rattle.std.specs.List.{AllByRecursion}
use Rattle.std.proofs.lemmas.Bool.{cases_eq, cases_lt, eq-eqb, ne_eqb}
use Rattle.std.proofs.lemmas.Bool.Decides.{nat_tests}
use Rattle.jsp_table.specs.Finding.{numbered, AreNumbered}
use Rattle.jsp_table.proofs.Finding.{each, both, everywhere, found_above}
use Rattle.jsp_keyed.specs.Finding.{IsUpTo, IsOneOf, IsLeast, lesser}

some_same : {X : Type 0} {a b : X} → Some a ≡ Some b → a ≡ b
some_same e = cc

module _ {T : Type 0} (num : T → ℕ) (p : T → Bool) where
  one_more_one : (x : T) (xs : List T) (o : Option T) → AllByRecursion (λ y. num x < num y) xs → IsOneOf num p xs o → IsOneOf num p (x ∷ xs) o
  one_more_one x xs None above one = tt
  one_more_one x xs (Some r) above one =
      let lt : num x < num r = found_above num (num r) (num x) xs r above one.1 in
      (one.0, ap (λ b. cond b (Some x) (numbered num (num r) xs)) (ne_eqb (num x) (num r) (differs lt)) ∙ one.1) where
        differs : {a b : ℕ} → a < b → a ≢ b
        differs lt e = omega arith

  up_to_first : (x : T) (y : T) → num x < num y → IsUpTo num (Some x) (num y)
  up_to_first x y lt = omega arith

  -- what is found among all by a test that all of the kind that pass pass too
  pub found_least : (q kind : T → Bool) (xs : List T) → AreNumbered num xs → ((r : T) → q r ≡ true → p r ≡ true) → ((r : T) → p r ≡ true → kind r ≡ true → q r ≡ true) → IsLeast num p kind xs (find q xs)
  found_least q kind [] up sound full = record { one = tt; least = tt }
  found_least q kind (x ∷ xs) up sound full = at (q x) refl (found_least q kind xs up.1 sound full) where
    at : (b : Bool) → q x ≡ b → IsLeast num p kind xs (find q xs) → IsLeast num p kind (x ∷ xs) (cond b (Some x) (find q xs))
    at true e rest = record {
      one = (sound x e, ap (λ b. cond b (Some x) (numbered num (num x) xs)) (eq-eqb (num x) (num x) refl));
      least = (λ h k. omega arith, each (λ y. num x < num y) (λ w. p w ≡ true → kind w ≡ true → IsUpTo num (Some x) (num w)) xs up.0 (λ y lt h k. up_to_first x y lt));
    }
    at false e rest = record {
      one = one_more_one x xs (find q xs) up.0 rest.one;
      least = (λ h k. absurd (cc (full x h k, e)), rest.least);
    }

  pub least_none : (kind : T → Bool) (xs : List T) → ((r : T) → kind r ≡ false) → IsLeast num p kind xs None
  least_none kind xs none = record { one = tt; least = everywhere (λ w. p w ≡ true → kind w ≡ true → IsUpTo num None (num w)) xs (λ r h k. absurd (cc (k, none r))) }

  up_to_left : (a b : Option T) (n : ℕ) → IsUpTo num a n → IsUpTo num (lesser num a b) n
  up_to_left None b n h = absurd h
  up_to_left (Some a) None n h = h
  up_to_left (Some a) (Some b) n h = elim (cases_lt (num b) (num a)) [
    | inl lt ↦ rw (not_le (num a) (num b) lt) (le_le lt h)
    | inr ge ↦ rw (is_le (num a) (num b) ge) h
  ] where
    not_le : (m k : ℕ) → k < m → nat_le m k ≡ false
    not_le m k lt = grind (arith, nat_tests)

    is_le : (m k : ℕ) → m ≤ k → nat_le m k ≡ true
    is_le m k le = grind (arith, nat_tests)

    le_le : {x y z : ℕ} → x < y → y ≤ z → x ≤ z
    le_le p q = omega arith

  up_to_right : (a b : Option T) (n : ℕ) → IsUpTo num b n → IsUpTo num (lesser num a b) n
  up_to_right None b n h = h
  up_to_right (Some a) None n h = absurd h
  up_to_right (Some a) (Some b) n h = elim (cases_lt (num b) (num a)) [
    | inl lt ↦ rw (not_le (num a) (num b) lt) h
    | inr ge ↦ rw (is_le (num a) (num b) ge) (le_le ge h)
  ] where
    not_le : (m k : ℕ) → k < m → nat_le m k ≡ false
    not_le m k lt = grind (arith, nat_tests)

    is_le : (m k : ℕ) → m ≤ k → nat_le m k ≡ true
    is_le m k le = grind (arith, nat_tests)

    le_le : {x y z : ℕ} → x ≤ y → y ≤ z → x ≤ z
    le_le p q = omega arith

  one_of_both : (xs : List T) (a b : Option T) → IsOneOf num p xs a → IsOneOf num p xs b → IsOneOf num p xs (lesser num a b)
  one_of_both xs None b f g = g
  one_of_both xs (Some a) None f g = f
  one_of_both xs (Some a) (Some b) f g = at (nat_le (num a) (num b)) where
    at : (c : Bool) → IsOneOf num p xs (cond c (Some a) (Some b))
    at true = f
    at false = g

  -- two parts together
  pub least_of_both : (k l both_kinds : T → Bool) (xs : List T) (a b : Option T) → ((r : T) → both_kinds r ≡ true → (k r ≡ true) ⊎ (l r ≡ true)) → IsLeast num p k xs a → IsLeast num p l xs b → IsLeast num p both_kinds xs (lesser num a b)
  least_of_both k l both_kinds xs a b split f g = record {
    one = one_of_both xs a b f.one g.one;
    least = both (λ w. p w ≡ true → k w ≡ true → IsUpTo num a (num w)) (λ w. p w ≡ true → l w ≡ true → IsUpTo num b (num w)) (λ w. p w ≡ true → both_kinds w ≡ true → IsUpTo num (lesser num a b) (num w)) xs f.least g.least
        (λ r u v h c. elim (split r c) [ inl e ↦ up_to_left a b (num r) (u h e) | inr e ↦ up_to_right a b (num r) (v h e) ]);
  }

  -- of a lesser kind, among things of which something is known
  pub least_among : (P : T → Type 0) (k l : T → Bool) (xs : List T) (a : Option T) → AllByRecursion P xs → ((r : T) → P r → l r ≡ true → k r ≡ true) → IsLeast num p k xs a → IsLeast num p l xs a
  least_among P k l xs a known narrow f = record {
    one = f.one;
    least = both P (λ w. p w ≡ true → k w ≡ true → IsUpTo num a (num w)) (λ w. p w ≡ true → l w ≡ true → IsUpTo num a (num w)) xs known f.least (λ r g u h c. u h (narrow r g c));
  }

  same_thing : (xs : List T) (x r : T) → numbered num (num r) (x ∷ xs) ≡ Some r → num r ≤ num x → AllByRecursion (λ y. num x < num y) xs → x ≡ r
  same_thing xs x r is le above = elim (cases_eq (num x) (num r)) [
    | inl e ↦ some_same (ap (λ b. cond b (Some x) (numbered num (num r) xs)) (sym (eq-eqb (num x) (num r) e)) ∙ is)
    | inr ne ↦ absurd (over (found_above num (num r) (num x) xs r above (ap (λ b. cond b (Some x) (numbered num (num r) xs)) (sym (ne_eqb (num x) (num r) ne)) ∙ is)))
  ] where
    over : num x < num r → ⊥
    over lt = omega arith

  -- where all that pass are of the kind, it is the first of all
  pub least_first : (kind : T → Bool) (xs : List T) (o : Option T) → AreNumbered num xs → ((r : T) → p r ≡ true → kind r ≡ true) → IsLeast num p kind xs o → o ≡ find p xs
  least_first kind [] None up all h = refl
  least_first kind [] (Some r) up all h = absurd (cc (h.one.1))
  least_first kind (x ∷ xs) o up all h = at (p x) refl o h (least_first kind xs o up.1 all) where
    at : (b : Bool) → p x ≡ b → (o : Option T) → IsLeast num p kind (x ∷ xs) o → (IsLeast num p kind xs o → o ≡ find p xs) → o ≡ cond b (Some x) (find p xs)
    at true e None h rest = absurd (h.least.0 e (all x e))
    at true e (Some r) h rest = ap (λ w. Some w) (sym (same_thing xs x r h.one.1 (h.least.0 e (all x e)) up.0))
    at false e None h rest = rest (record { one = tt; least = h.least.1 })
    at false e (Some r) h rest = rest (record { one = (h.one.0, ap (λ b. cond b (Some x) (numbered num (num r) xs)) (sym (ne_eqb (num x) (num r) differs)) ∙ h.one.1); least = h.least.1 }) where
      differs : num x ≢ num r
      differs q = let s : x ≡ r = some_same (ap (λ b. cond b (Some x) (numbered num (num r) xs)) (sym (eq-eqb (num x) (num r) q)) ∙ h.one.1) in absurd (cc (e, ap p s, h.one.0))

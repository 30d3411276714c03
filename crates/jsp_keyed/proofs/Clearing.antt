-- The things that pass leave one by one.
use Rattle.std.proofs.Common.{◌≡◌, ℕ, ◌<◌, ◌≤◌, Bool, true, false, not, cond, eqb, List, [], ◌∷◌, length, Option, Some, None, option_map, refl, ap, sym, ◌∙◌, subst, arith}
use Rattle.std.specs.Prelude.{filter, find}
use Rattle.std.specs.List.{AllByRecursion}
use Rattle.jsp_table.specs.Finding.{numbered, AreNumbered}
use Rattle.jsp_table.proofs.Finding.{each}
use Rattle.jsp_keyed.specs.Finding.{IsOneOf}
use Rattle.jsp_keyed.proofs.Least.{found_least}
use Rattle.jsp_keyed.proofs.Walking.{only_one, eqb_eq}

some_nat : {a b : ℕ} → Some a ≡ Some b → a ≡ b
some_nat e = cc

module _ {T : Type 0} (num : T → ℕ) where
  pub record IsIn (kind : T → Bool) (xs : List T) (n : ℕ) : Type 0 where
    pub thing : T
    pub there : numbered num n xs ≡ Some thing
    pub kinds : AllByRecursion (λ x. num x ≡ n → kind x ≡ true) xs

  one_of : (kind : T → Bool) (xs : List T) (o : Option T) (n : ℕ) → AreNumbered num xs → find kind xs ≡ o → Some n ≡ option_map num o → IsIn kind xs n
  one_of kind xs None n up is e = absurd (cc)
  one_of kind xs (Some r) n up is e =
      let same : n ≡ num r = some_nat e in
      let least = found_least num kind kind kind xs up (λ r h. h) (λ r h k. h) in
      let one : IsOneOf num kind xs (Some r) = subst (IsOneOf num kind xs) is least.one in
      let there : numbered num n xs ≡ Some r = ap (λ m. numbered num m xs) same ∙ one.1 in
      record {
        thing = r;
        there = there;
        kinds = each (λ x. num x ≡ n → x ≡ r) (λ x. num x ≡ n → kind x ≡ true) xs (only_one num n xs r up there) (λ x f h. ap kind (f h) ∙ one.0);
      }

  pub first_is_in : (kind : T → Bool) (xs : List T) (n : ℕ) → AreNumbered num xs → Some n ≡ option_map num (find kind xs) → IsIn kind xs n
  first_is_in kind xs n up e = one_of kind xs (find kind xs) n up refl e

  pub others_same : (kind : T → Bool) (n : ℕ) (xs : List T) → AllByRecursion (λ x. num x ≡ n → kind x ≡ true) xs → filter (λ x. not (kind x)) (filter (λ (x : T). not (eqb (num x) n)) xs) ≡ filter (λ x. not (kind x)) xs
  others_same kind n [] h = refl
  others_same kind n (x ∷ xs) h = at (eqb (num x) n) refl (others_same kind n xs h.1) where
    at : (b : Bool) → eqb (num x) n ≡ b → filter (λ x. not (kind x)) (filter (λ (x : T). not (eqb (num x) n)) xs) ≡ filter (λ x. not (kind x)) xs
        → filter (λ x. not (kind x)) (filter (λ (x : T). not (eqb (num x) n)) (x ∷ xs)) ≡ filter (λ x. not (kind x)) (x ∷ xs)
    at true e rest = rw (e, h.0 (eqb_eq (num x) n e)) rest
    at false e rest = rw e (ap (λ w. cond (not (kind x)) (x ∷ w) w) rest)

  no_more : (q : T → Bool) (xs : List T) → length (filter q xs) ≤ length xs
  no_more q [] = omega arith
  no_more q (x ∷ xs) = at (q x) (no_more q xs) where
    at : (b : Bool) → length (filter q xs) ≤ length xs → length (cond b (x ∷ filter q xs) (filter q xs)) ≤ length (x ∷ xs)
    at true h = omega arith
    at false h = omega arith

  pub one_fewer : (n : ℕ) (xs : List T) (r : T) → numbered num n xs ≡ Some r → length (filter (λ (x : T). not (eqb (num x) n)) xs) < length xs
  one_fewer n [] r h = absurd (cc)
  one_fewer n (x ∷ xs) r h = at (eqb (num x) n) refl (no_more (λ (x : T). not (eqb (num x) n)) xs) (one_fewer n xs r) where
    at : (b : Bool) → eqb (num x) n ≡ b → length (filter (λ (x : T). not (eqb (num x) n)) xs) ≤ length xs → (numbered num n xs ≡ Some r → length (filter (λ (x : T). not (eqb (num x) n)) xs) < length xs)
        → length (cond (not b) (x ∷ filter (λ (x : T). not (eqb (num x) n)) xs) (filter (λ (x : T). not (eqb (num x) n)) xs)) < length (x ∷ xs)
    at true e le rest = omega arith
    at false e le rest = let less = rest (ap (λ b. cond b (Some x) (numbered num n xs)) (sym e) ∙ h) in omega (arith, less)

  pub none_clear : (kind : T → Bool) (xs : List T) → None ≡ option_map num (find kind xs) → filter (λ x. not (kind x)) xs ≡ xs
  none_clear kind [] h = refl
  none_clear kind (x ∷ xs) h = at (kind x) refl (none_clear kind xs) where
    at : (b : Bool) → kind x ≡ b → (None ≡ option_map num (find kind xs) → filter (λ x. not (kind x)) xs ≡ xs) → filter (λ x. not (kind x)) (x ∷ xs) ≡ x ∷ xs
    at true e rest = absurd (cc (h, ap (λ b. option_map num (cond b (Some x) (find kind xs))) e))
    at false e rest = rw e (ap (λ w. x ∷ w) (rest (h ∙ ap (λ b. option_map num (cond b (Some x) (find kind xs))) e)))

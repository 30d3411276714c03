-- The first that passes a test is found by a rising list that names each that does.
use Rattle.std.proofs.Common.{◌≡◌, ℕ, ◌<◌, ◌≤◌, Bool, true, false, cond, ◌&&◌, nat_lt, List, [], ◌∷◌, Some, None, inl, inr, refl, ap, sym, ◌∙◌, arith}
use Rattle.std.specs.Prelude.{find}
use Rattle.std.specs.List.{AllByRecursion}
use Rattle.std.specs.Option.{option_map_or}
use Rattle.std.proofs.lemmas.Bool.{cases_eq, cases_lt, cases_order, eq-eqb, ne_eqb}
use Rattle.jsp_table.specs.Numbers.{contains, AreIncreasing}
use Rattle.jsp_table.specs.Finding.{numbered, is_hit, AreNumbered}
use Rattle.jsp_table.proofs.Next.{none_between, none_above, next_is_above, next_is_there}
use Rattle.jsp_table.proofs.Standing.{some_same}
use Rattle.std.proofs.lemmas.Bool.Decides.{nat_tests}

-- ---- things

module _ {T : Type 0} where
  pub both : (P Q R : T → Type 0) (xs : List T) → AllByRecursion P xs → AllByRecursion Q xs → ((x : T) → P x → Q x → R x) → AllByRecursion R xs
  both P Q R [] p q f = tt
  both P Q R (x ∷ xs) p q f = (f x p.0 q.0, both P Q R xs p.1 q.1 f)

  pub each : (P R : T → Type 0) (xs : List T) → AllByRecursion P xs → ((x : T) → P x → R x) → AllByRecursion R xs
  each P R [] p f = tt
  each P R (x ∷ xs) p f = (f x p.0, each P R xs p.1 f)

  pub everywhere : (R : T → Type 0) (xs : List T) → ((x : T) → R x) → AllByRecursion R xs
  everywhere R [] f = tt
  everywhere R (x ∷ xs) f = (f x, everywhere R xs f)

module _ {T : Type 0} (num : T → ℕ) where
  -- what a number finds is above what all are above
  pub found_above : (n m : ℕ) (xs : List T) (r : T) → AllByRecursion (λ y. m < num y) xs → numbered num n xs ≡ Some r → m < n
  found_above n m [] r h is = absurd (cc)
  found_above n m (x ∷ xs) r h is = elim (cases_eq (num x) n) [
    | inl e ↦ up h.0 e
    | inr ne ↦ found_above n m xs r h.1 (ap (λ b. cond b (Some x) (numbered num n xs)) (sym (ne_eqb (num x) n ne)) ∙ is)
  ] where
    up : {a b : ℕ} → m < a → a ≡ b → m < b
    up h e = omega arith

  -- ---- hits above a number

  pub found_number : (n : ℕ) (xs : List T) (r : T) → numbered num n xs ≡ Some r → num r ≡ n
  found_number n [] r is = absurd (cc)
  found_number n (x ∷ xs) r is = elim (cases_eq (num x) n) [
    | inl e ↦ same (some_same (ap (λ b. cond b (Some x) (numbered num n xs)) (sym (eq-eqb (num x) n e)) ∙ is)) e
    | inr ne ↦ found_number n xs r (ap (λ b. cond b (Some x) (numbered num n xs)) (sym (ne_eqb (num x) n ne)) ∙ is)
  ] where
    same : {x : T} → x ≡ r → num x ≡ n → num r ≡ n
    same e h = ap num (sym e) ∙ h

  -- the thing of that number, if there is one, fails
  abbrev pub Fails : (T → Bool) → ℕ → List T → Type 0
  Fails test n xs = option_map_or test (numbered num n xs) false ≡ false

  module _ (test : T → Bool) (ns : List ℕ) where
    abbrev hit_over : ℕ → T → Bool
    hit_over last x = is_hit num test ns last x

    low : (last : ℕ) (x : T) → num x ≤ last → hit_over last x ≡ false
    low last x le = rw (not_lt last (num x) le) refl where
      not_lt : (a b : ℕ) → b ≤ a → nat_lt a b ≡ false
      not_lt a b le = grind (arith, nat_tests)

    not_named : (last : ℕ) (x : T) → contains ns (num x) ≡ false → hit_over last x ≡ false
    not_named last x h = rw h (both_false (nat_lt last (num x))) where
      both_false : (b : Bool) → (b && false) ≡ false
      both_false true = refl
      both_false false = refl

    failed : (last : ℕ) (x : T) → test x ≡ false → hit_over last x ≡ false
    failed last x h = rw h (both_false (nat_lt last (num x)) (contains ns (num x))) where
      both_false : (b c : Bool) → (b && (c && false)) ≡ false
      both_false true true = refl
      both_false true false = refl
      both_false false c = refl

    same_hits : (last n : ℕ) (xs : List T) → AllByRecursion (λ x. hit_over n x ≡ hit_over last x) xs → find (hit_over n) xs ≡ find (hit_over last) xs
    same_hits last n [] h = refl
    same_hits last n (x ∷ xs) h = rw (h.0, same_hits last n xs h.1) refl

    no_hits : (last : ℕ) (xs : List T) → AllByRecursion (λ x. hit_over last x ≡ false) xs → find (hit_over last) xs ≡ None
    no_hits last [] h = refl
    no_hits last (x ∷ xs) h = rw h.0 (no_hits last xs h.1)

    module _ (up : AreIncreasing ns) (last n : ℕ) (is : find (nat_lt last) ns ≡ Some n) where
      -- one before the next number is no hit
      early : (x : T) → num x < n → hit_over last x ≡ false
      early x less = elim (cases_lt last (num x)) [
        | inl over ↦ not_named last x (none_between ns last n (num x) up is over less)
        | inr under ↦ low last x under
      ]

      late : (x : T) → n < num x → hit_over n x ≡ hit_over last x
      late x over = rw (yes n (num x) over, yes last (num x) (further (next_is_above ns last n is))) refl where
        further : last < n → last < num x
        further h = omega arith

        yes : (a b : ℕ) → a < b → nat_lt a b ≡ true
        yes a b h = grind (arith, nat_tests)

      -- where the thing of the next number fails, the hits are those above it
      pub passed_over : (xs : List T) → AreNumbered num xs → Fails test n xs → find (hit_over n) xs ≡ find (hit_over last) xs
      passed_over xs rise fails = same_hits last n xs (each (λ x. num x ≡ n → test x ≡ false) (λ x. hit_over n x ≡ hit_over last x) xs (each_fails xs rise fails) at) where
        each_fails : (xs : List T) → AreNumbered num xs → Fails test n xs → AllByRecursion (λ x. num x ≡ n → test x ≡ false) xs
        each_fails [] h f = tt
        each_fails (x ∷ xs) h f = elim (cases_eq (num x) n) [
          | inl e ↦ (
            λ _. ap (λ b. option_map_or test (cond b (Some x) (numbered num n xs)) false) (sym (eq-eqb (num x) n e)) ∙ f,
            each (λ y. num x < num y) (λ y. num y ≡ n → test y ≡ false) xs h.0 (λ y lt g. absurd (apart lt e g)),
          )
          | inr ne ↦ (λ e. absurd (ne e), each_fails xs h.1 (ap (λ b. option_map_or test (cond b (Some x) (numbered num n xs)) false) (sym (ne_eqb (num x) n ne)) ∙ f))
        ] where
          apart : {a b : ℕ} → a < b → a ≡ n → b ≡ n → ⊥
          apart lt e g = omega arith

        at : (x : T) → (num x ≡ n → test x ≡ false) → hit_over n x ≡ hit_over last x
        at x fails = elim (cases_order (num x) n) [
          | inl e ↦ failed n x (fails e) ∙ sym (failed last x (fails e))
          | inr ne ↦ elim ne [
            | inl less ↦ low n x (omega arith) ∙ sym (early x less)
            | inr over ↦ late x over
          ]
        ]

      -- the thing of the next number is the first hit, if it passes
      pub first_hit : (xs : List T) (r : T) → AreNumbered num xs → numbered num n xs ≡ Some r → test r ≡ true → find (hit_over last) xs ≡ Some r
      first_hit [] r rise there passes = absurd (cc)
      first_hit (x ∷ xs) r rise there passes = elim (cases_eq (num x) n) [
        | inl e ↦ this e (some_same (ap (λ b. cond b (Some x) (numbered num n xs)) (sym (eq-eqb (num x) n e)) ∙ there))
        | inr ne ↦ later (λ next. first_hit xs r rise.1 next passes) (ap (λ b. cond b (Some x) (numbered num n xs)) (sym (ne_eqb (num x) n ne)) ∙ there)
      ] where
        yes : (a b c : ℕ) → b ≡ c → a < c → nat_lt a b ≡ true
        yes a b c e h = grind (arith, nat_tests)

        this : num x ≡ n → x ≡ r → find (hit_over last) (x ∷ xs) ≡ Some r
        this e same =
            rw (yes last (num x) n e (next_is_above ns last n is), ap (contains ns) e ∙ next_is_there ns last n is, ap test same ∙ passes) (ap Some same)

        later : (numbered num n xs ≡ Some r → find (hit_over last) xs ≡ Some r) → numbered num n xs ≡ Some r → find (hit_over last) (x ∷ xs) ≡ Some r
        later rest next = rw (early x (found_above n (num x) xs r rise.0 next)) (rest next)

    -- where there is no further number, there is no hit
    pub none_left : (last : ℕ) (xs : List T) → find (nat_lt last) ns ≡ None → find (hit_over last) xs ≡ None
    none_left last xs is = no_hits last xs (everywhere (λ x. hit_over last x ≡ false) xs (λ x. elim (cases_lt last (num x)) [
      | inl over ↦ not_named last x (none_above ns last (num x) is over)
      | inr under ↦ low last x under
    ]))

-- Numbers that rise, by neighbours.
use Rattle.std.proofs.Common.{◌≡◌, ℕ, Bool, true, false, ltb, nat_lt, List, [], ◌∷◌, drop, refl, ap, ◌∙◌, arith}
use Rattle.std.specs.Prelude.{◌&&◌, zip}
use Rattle.std.specs.List.{list_all}
use Rattle.std.proofs.lemmas.Bool.{and_parts}
use Rattle.std.proofs.lemmas.Bool.Decides.{nat_tests}
use Rattle.jsp_model.specs.Steps.{is_rising}

all_above : (n m : ℕ) (ns : List ℕ) → ltb n m ≡ true → list_all (nat_lt m) ns ≡ true → list_all (nat_lt n) ns ≡ true
all_above n m [] lt h = refl
all_above n m (k ∷ ns) lt h =
    let parts = and_parts (nat_lt m k) (list_all (nat_lt m) ns) h in
    let above : ltb n k ≡ true = grind (arith, nat_tests, lt, parts.0) in
    rw above (all_above n m ns lt parts.1)

joined : (n m : ℕ) (ns : List ℕ) (b rest : Bool) → ltb n m ≡ true → list_all (nat_lt m) ns ≡ b → (b && rest) ≡ (list_all (nat_lt n) ns && (b && rest))
joined n m ns true rest lt is = rw (all_above n m ns lt is) refl
joined n m ns false rest lt is = elim (list_all (nat_lt n) ns) as (λ a. false ≡ (a && false)) [ true ↦ refl | false ↦ refl ]

one_more : (n m : ℕ) (ns : List ℕ) (b : Bool) → ltb n m ≡ b → (b && is_rising (m ∷ ns)) ≡ ((b && list_all (nat_lt n) ns) && is_rising (m ∷ ns))
one_more n m ns true lt = joined n m ns (list_all (nat_lt m) ns) (is_rising ns) lt refl
one_more n m ns false lt = refl

pub rising_is : (ns : List ℕ) → list_all (λ p. nat_lt p.0 p.1) (zip ns (drop 1 ns)) ≡ is_rising ns
rising_is [] = refl
rising_is (n ∷ []) = refl
rising_is (n ∷ m ∷ ns) = ap (λ w. nat_lt n m && w) (rising_is (m ∷ ns)) ∙ one_more n m ns (nat_lt n m) refl

-- A sequence number that isn't the greatest there is rises by one.
use Rattle.std.proofs.Common.{◌≡◌, ℕ, ◌+◌, ◌-◌, ◌^◌, Bool, true, false, cond, eqb, List, [], ◌∷◌, map, drop, refl, ap, arith}
use Rattle.std.specs.Prelude.{nat_le, min, ◌==◌}
use Rattle.std.specs.List.{list_all}
use Rattle.std.proofs.lemmas.Bool.{and_parts}
use Rattle.std.proofs.lemmas.Bool.Decides.{nat_tests}
use Rattle.jsp_model.specs.declared.state.Registration.{Registration}
use Rattle.jsp_model.specs.Lookup.{update}
use Rattle.jsp_notify.specs.Registered.{told_once, told_at_most, telling}

rises : (n : ℕ) → nat_le (n + 1) (2 ^ 63) ≡ true → min (n + 1) (2 ^ 64 - 1) ≡ n + 1
rises n h = grind (arith, nat_tests)

one : (r : Registration) → nat_le (r.sequence + 1) (2 ^ 63) ≡ true → told_at_most r ≡ told_once r
one r h = ap (λ (n : ℕ). record r { owed = drop 1 r.owed; sequence = n }) (rises r.sequence h)

pub told_exactly : (n : ℕ) (rs : List Registration) → list_all (λ r. nat_le (r.sequence + 1) (2 ^ 63)) rs ≡ true → map (telling n) rs ≡ update (λ r. r.number == n) told_once rs
told_exactly n [] h = refl
told_exactly n (r ∷ rs) h =
    let two = and_parts (nat_le (r.sequence + 1) (2 ^ 63)) (list_all (λ (r : Registration). nat_le (r.sequence + 1) (2 ^ 63)) rs) h in
    same (at (eqb r.number n)) (told_exactly n rs two.1) where
      same : {x y : Registration} {xs ys : List Registration} → x ≡ y → xs ≡ ys → x ∷ xs ≡ y ∷ ys
      same e k = cc

      at : (b : Bool) → cond b (told_at_most r) r ≡ cond b (told_once r) r
      at true = one r (and_parts (nat_le (r.sequence + 1) (2 ^ 63)) (list_all (λ (r : Registration). nat_le (r.sequence + 1) (2 ^ 63)) rs) h).0
      at false = refl

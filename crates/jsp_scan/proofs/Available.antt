-- The rows that a request may be given: whether one is among them, whether there is none.
use Rattle.std.proofs.Common.{◌≡◌, ℕ, suc, Bool, true, false, cond, eqb, List, [], ◌∷◌, length, map, refl, arith}
use Rattle.std.specs.Prelude.{filter, not, ◌&&◌, ◌||◌, ◌==◌}
use Rattle.std.specs.List.{list_any}
use Rattle.std.proofs.lemmas.Bool.Decides.{nat_tests}
use Rattle.jsp_model.specs.declared.state.Row.{Row}
use Rattle.jsp_model.specs.Lookup.{contains}

among_at : (n : ℕ) (p : Row → Bool) (r : Row) (rows : List Row) (b e : Bool) → p r ≡ b → eqb r.number n ≡ e → list_any (λ (r : Row). r.number == n && p r) rows ≡ contains (map (λ (r : Row). r.number) (filter p rows)) n
    → list_any (λ (r : Row). r.number == n && p r) (r ∷ rows) ≡ contains (map (λ (r : Row). r.number) (filter p (r ∷ rows))) n
among_at n p r rows true true is same rest = rw (is, same) refl
among_at n p r rows true false is same rest = rw (is, same) rest
among_at n p r rows false true is same rest = rw (is, same) rest
among_at n p r rows false false is same rest = rw (is, same) rest

pub among_is : (n : ℕ) (p : Row → Bool) (rows : List Row) → list_any (λ (r : Row). r.number == n && p r) rows ≡ contains (map (λ (r : Row). r.number) (filter p rows)) n
among_is n p [] = refl
among_is n p (r ∷ rows) = among_at n p r rows (p r) (eqb r.number n) refl refl (among_is n p rows)

not_none : (n : ℕ) → false ≡ eqb (suc n) 0
not_none n = grind (arith, nat_tests)

pub none_is : {X Y : Type 0} (f : X → Y) (p : X → Bool) (xs : List X) → not (list_any p xs) ≡ (length (map f (filter p xs)) == 0)
none_is f p [] = refl
none_is f p (x ∷ xs) = elim (p x) as (λ b. not (b || list_any p xs) ≡ (length (map f (cond b (x ∷ filter p xs) (filter p xs))) == 0)) [ true ↦ not_none (length (map f (filter p xs))) | false ↦ none_is f p xs ]

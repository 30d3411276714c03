-- The rows of a request's step are a choice.
use Rattle.std.proofs.Common.{◌≡◌, ℕ, ◌<◌, true, List, [], ◌∷◌, map, take, ap, ◌∙◌, arith}
use Rattle.std.specs.Prelude.{nat_lt}
use Rattle.std.proofs.lemmas.Bool.{and_parts, ltb-true}
use Rattle.jsp_model.specs.declared.state.State.{State}
use Rattle.jsp_model.specs.declared.state.Blocked.{Blocked}
use Rattle.jsp_model.specs.declared.state.Row.{Row}
use Rattle.jsp_model.specs.Limits.{are_rising}
use Rattle.jsp_model.specs.Sight.{available}
use Rattle.jsp_model.specs.Steps.{is_choice}
use Rattle.jsp_laws.proofs.Lists.{Each}
use Rattle.jsp_laws.proofs.Rising.{Rising}
use Rattle.jsp_quiet.proofs.Progress.{first_choice}

above : {X : Type 0} (f : X → ℕ) (low high n : ℕ) (xs : List X) → n < low → are_rising low high (map f xs) ≡ true → Each (λ x. n < f x) xs
above f low high n [] lt h = tt
above f low high n (x ∷ xs) lt h =
    let parts = and_parts (nat_lt low (f x)) (are_rising (f x) high (map f xs)) h in
    let more : low < f x = ltb-true low (f x) parts.0 in
    (omega (arith, lt, more), above f (f x) high n xs (omega (arith, lt, more)) parts.1)

-- numbers that rise one by one rise above all before them
pub all_rising : {X : Type 0} (f : X → ℕ) (low high : ℕ) (xs : List X) → are_rising low high (map f xs) ≡ true → Rising f xs
all_rising f low high [] h = tt
all_rising f low high (x ∷ xs) h =
    let parts = and_parts (nat_lt low (f x)) (are_rising (f x) high (map f xs)) h in
    (each_above f (f x) high xs parts.1, all_rising f (f x) high xs parts.1)
  where
    each_above : {X : Type 0} (f : X → ℕ) (n high : ℕ) (xs : List X) → are_rising n high (map f xs) ≡ true → Each (λ y. n < f y) xs
    each_above f n high [] h = tt
    each_above f n high (y ∷ xs) h =
        let parts = and_parts (nat_lt n (f y)) (are_rising (f y) high (map f xs)) h in
        let more : n < f y = ltb-true n (f y) parts.0 in
        (more, above f (f y) high n xs more parts.1)

-- the least of the available rows are a choice
pub least_chosen : (st : State) (b : Blocked) (ns : List ℕ) → are_rising 0 st.next_number (map (λ r. r.number) st.rows) ≡ true → ns ≡ take b.most (available st b) → is_choice st b ns ≡ true
least_chosen st b ns rising chosen = ap (is_choice st b) chosen ∙ first_choice st b (all_rising (λ (r : Row). r.number) 0 st.next_number st.rows rising)

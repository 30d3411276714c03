-- Items whose numbers rise: at most one has a number.
use Rattle.std.proofs.Common.{◌≡◌, ◌∙◌, ℕ, zero, suc, ◌<◌, ◌≤◌, Bool, true, false, cond, eqb, nat_lt, List, [], ◌∷◌, length, get_or, set, map, Some, None, refl, ap, sym, arith}
use Rattle.std.specs.Prelude.{position, ◌==◌, ◌||◌}
use Rattle.std.specs.List.{list_any, position_or_len}
use Rattle.std.proofs.lemmas.Bool.Decides.{nat_tests}
use Rattle.std.proofs.lemmas.Bool.{and_parts, ne_eqb, eqb-true, ltb-true}
use Rattle.std.proofs.lemmas.List.Quantifiers.{position-Some}
use Rattle.jsp_model.specs.Lookup.{update}
use Rattle.jsp_model.specs.Limits.{are_rising}

none_below : (b : Bool) (n : ℕ) → cond b (Some n) None ≡ None → b ≡ false
none_below true n h = cc (h)
none_below false n h = refl

any_from_place : {X : Type 0} (p : X → Bool) (xs : List X) → nat_lt (position_or_len p xs) (length xs) ≡ list_any p xs
any_from_place p [] = refl
any_from_place p (x ∷ xs) = grind (arith, nat_tests, any_from_place p xs)

-- no place is found where none passes
pub none_fits : {X : Type 0} (p : X → Bool) (xs : List X) → position p xs ≡ None → list_any p xs ≡ false
none_fits p xs h = sym (any_from_place p xs) ∙ none_below (nat_lt (position_or_len p xs) (length xs)) (position_or_len p xs) h

pub or_parts : (x y : Bool) → (x || y) ≡ false → (x ≡ false) × (y ≡ false)
or_parts true y h = (cc (h), cc (h))
or_parts false y h = (refl, h)

none_changed : {X : Type 0} (test : X → Bool) (change : X → X) (xs : List X) → list_any test xs ≡ false → update test change xs ≡ xs
none_changed test change [] h = refl
none_changed test change (x ∷ xs) h =
    let parts = or_parts (test x) (list_any test xs) h in
    rw parts.0 (ap (λ w. x ∷ w) (none_changed test change xs parts.1))

-- no number at or below the least is changed
untouched : {X : Type 0} (number : X → ℕ) (change : X → X) (n low high : ℕ) (xs : List X) → n ≤ low → are_rising low high (map number xs) ≡ true → update (λ x. number x == n) change xs ≡ xs
untouched number change n low high [] le h = refl
untouched number change n low high (x ∷ xs) le h =
    let parts = and_parts (nat_lt low (number x)) (are_rising (number x) high (map number xs)) h in
    let less : low < number x = ltb-true low (number x) parts.0 in
    let other : eqb (number x) n ≡ false = ne_eqb (number x) n (λ e. omega (arith, less)) in
    rw other (ap (λ w. x ∷ w) (untouched number change n (number x) high xs (omega (arith, less)) parts.1))

update_here : {X : Type 0} (number : X → ℕ) (change : X → X) (n low high : ℕ) (xs : List X) (i : ℕ) (d : X) → are_rising low high (map number xs) ≡ true
    → i < length xs → eqb (number (get_or xs i d)) n ≡ true → ((k : ℕ) → k < i → eqb (number (get_or xs k d)) n ≡ false) → set xs i (change (get_or xs i d)) ≡ update (λ x. number x == n) change xs
update_here number change n low high [] i d h lt is others = absurd (omega arith)
update_here number change n low high (x ∷ xs) zero d h lt is others =
    let parts = and_parts (nat_lt low (number x)) (are_rising (number x) high (map number xs)) h in
    let same : number x ≡ n = eqb-true (number x) n is in
    rw is (ap (λ w. change x ∷ w) (sym (untouched number change n (number x) high xs (omega (arith, same)) parts.1)))
update_here number change n low high (x ∷ xs) (suc i) d h lt is others =
    let parts = and_parts (nat_lt low (number x)) (are_rising (number x) high (map number xs)) h in
    rw (others 0 (omega arith)) (ap (λ w. x ∷ w) (update_here number change n (number x) high xs i d parts.1 (omega arith) is (λ k less. others (suc k) (omega arith))))

-- the one at the place that is found is changed
pub update_at : {X : Type 0} (number : X → ℕ) (change : X → X) (n low high : ℕ) (xs : List X) (i : ℕ) (d : X) → are_rising low high (map number xs) ≡ true → position (λ x. number x == n) xs ≡ Some i → set xs i (change (get_or xs i d)) ≡ update (λ x. number x == n) change xs
update_at number change n low high xs i d h found =
    let at = position-Some (λ x. number x == n) xs i d found in
    update_here number change n low high xs i d h at.0 at.1 at.2

-- none is changed where none is found
pub update_none : {X : Type 0} (test : X → Bool) (change : X → X) (xs : List X) → position test xs ≡ None → update test change xs ≡ xs
update_none test change xs h = none_changed test change xs (none_fits test xs h)

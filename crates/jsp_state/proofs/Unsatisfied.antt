-- All wait where none is found that needn't.
use Rattle.std.proofs.Common.{◌≡◌, ◌∙◌, Bool, true, false, not, cond, List, [], ◌∷◌, Option, Some, None, refl, ap}
use Rattle.std.specs.Prelude.{find, is_none, is_some, ◌&&◌, ◌||◌}
use Rattle.std.specs.List.{list_all}

none_found : {X : Type 0} (here waits : X → Bool) (xs : List X) → is_none (find (λ x. here x && not (waits x)) xs) ≡ list_all (λ x. not (here x) || waits x) xs
none_found here waits [] = refl
none_found here waits (x ∷ xs) = go (here x) (waits x) (none_found here waits xs)
  where
    go : (h w : Bool) → is_none (find (λ x. here x && not (waits x)) xs) ≡ list_all (λ x. not (here x) || waits x) xs
        → is_none (cond (h && not w) (Some x) (find (λ x. here x && not (waits x)) xs)) ≡ ((not h || w) && list_all (λ x. not (here x) || waits x) xs)
    go true true ih = ih
    go true false ih = refl
    go false w ih = ih

pub none_is : {X : Type 0} (here waits : X → Bool) (xs : List X) (found : Option X) (none : Bool) → is_some found ≡ not none → found ≡ find (λ x. here x && not (waits x)) xs → none ≡ list_all (λ x. not (here x) || waits x) xs
none_is here waits xs None true e f = ap is_none f ∙ none_found here waits xs
none_is here waits xs None false e f = absurd (cc)
none_is here waits xs (Some x) true e f = absurd (cc)
none_is here waits xs (Some x) false e f = ap is_none f ∙ none_found here waits xs

-- What passes at places, some of which are empty, counted.
use Rattle.std.proofs.Common.{◌≡◌, suc, Bool, true, false, cond, List, [], ◌∷◌, length, Option, Some, None, refl, ap}
use Rattle.std.specs.Prelude.{filter}
use Rattle.std.specs.Option.{option_map_or}
use Rattle.jsp_table.specs.Places.{living}

pub count_living : {T : Type 0} (p : T → Bool) (places : List (Option T)) → length (filter (λ place. option_map_or p place false) places) ≡ length (filter p (living places))
count_living p [] = refl
count_living p (None ∷ places) = count_living p places
count_living p (Some x ∷ places) = at (p x) (count_living p places) where
  at : (b : Bool) → length (filter (λ place. option_map_or p place false) places) ≡ length (filter p (living places)) → length (cond b (Some x ∷ filter (λ place. option_map_or p place false) places) (filter (λ place. option_map_or p place false) places)) ≡ length (cond b (x ∷ filter p (living places)) (filter p (living places)))
  at true e = ap suc e
  at false e = e

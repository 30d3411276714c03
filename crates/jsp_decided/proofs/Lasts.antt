-- The last of the first rows that pass.
use Rattle.std.proofs.Common.{◌≡◌, ℕ, ◌+◌, ◌<◌, ◌≤◌, Bool, true, false, cond, List, [], ◌∷◌, ◌++◌, length, map, take, drop, get_or, Option, Some, None, refl, ap, sym, ◌∙◌, arith}
use Rattle.std.specs.Prelude.{filter}
use Rattle.std.specs.List.{filter_map, cons_option, last_or}
use Rattle.std.proofs.lemmas.List.{take_more, take_all, take-append-le, take-append-drop}
use Rattle.std.proofs.lemmas.List.Elements.{filter_map-append}
use Rattle.jsp_model.specs.declared.state.Row.{Row}
use Rattle.jsp_table.specs.Places.{living}
use Rattle.jsp_decided.specs.Left.{number_passed}

module _ (p : Row → Bool) where
  abbrev pub numbers : List (Option Row) → List ℕ
  numbers places = filter_map (number_passed p) places

  pub numbers_placed : (places : List (Option Row)) → numbers places ≡ map (λ (r : Row). r.number) (filter p (living places))
  numbers_placed [] = refl
  numbers_placed (None ∷ places) = numbers_placed places
  numbers_placed (Some r ∷ places) = at (p r) (numbers_placed places) where
    at : (b : Bool) → numbers places ≡ map (λ (r : Row). r.number) (filter p (living places)) → cons_option (cond b (Some r.number) None) (numbers places) ≡ map (λ (r : Row). r.number) (cond b (r ∷ filter p (living places)) (filter p (living places)))
    at true rest = ap (λ w. r.number ∷ w) rest
    at false rest = rest

  pub one_place_more : (places : List (Option Row)) (i : ℕ) (place : Option Row) → i < length places → place ≡ get_or places i place → numbers (take (i + 1) places) ≡ numbers (take i places) ++ cons_option (number_passed p place) []
  one_place_more places i place lt is =
      ap numbers (take_more places i place lt) ∙ (filter_map-append (number_passed p) (take i places) (get_or places i place ∷ []) ∙ ap (λ q. numbers (take i places) ++ cons_option (number_passed p q) []) (sym is))

  pub enough : (places : List (Option Row)) (i most : ℕ) → length (numbers (take i places)) ≡ most → numbers (take i places) ≡ take most (numbers places)
  enough places i most long =
      let first = numbers (take i places) in
      let rest = numbers (drop i places) in
      let split : numbers places ≡ first ++ rest = ap numbers (sym (take-append-drop i places)) ∙ filter_map-append (number_passed p) (take i places) (drop i places) in
      sym (ap (take most) split ∙ (take-append-le most first rest (omega (arith, long)) ∙ take_all most first (omega (arith, long))))

pub last_of_more : (d : Option ℕ) (xs : List ℕ) (y : ℕ) → last_or d (xs ++ y ∷ []) ≡ Some y
last_of_more d [] y = refl
last_of_more d (x ∷ xs) y = last_of_more (Some x) xs y

-- What is found first.
use Rattle.std.proofs.Common.{◌≡◌, ◌≢◌, ℕ, suc, ◌<◌, Bool, true, false, cond, ◌&&◌, ◌||◌, eqb, List, [], ◌∷◌, length, map, Some, None, refl, ap, sym, ◌∙◌, subst, arith}
use Rattle.std.specs.Prelude.{find, filter, slice_get, ◌==◌, option_map, is_some, is_none}
use Rattle.std.specs.List.{AllByRecursion, list_any}
use Rattle.std.proofs.lemmas.Bool.{ne_eqb}
use Rattle.std.proofs.lemmas.Bool.Decides.{nat_tests}
use Rattle.jsp_model.specs.declared.state.Row.{Row}
use Rattle.jsp_model.specs.Lookup.{contains}
use Rattle.jsp_table.specs.Finding.{AreNumbered as AreRising}
use Rattle.jsp_index.specs.Finding.{row_numbered}
use Rattle.jsp_index.proofs.Covering.{eqb_eq}

pub any_found : (q : Row → Bool) (rows : List Row) → is_some (find q rows) ≡ list_any q rows
any_found q [] = refl
any_found q (x ∷ rows) = at (q x) (any_found q rows) where
  at : (b : Bool) → is_some (find q rows) ≡ list_any q rows → is_some (cond b (Some x) (find q rows)) ≡ (b || list_any q rows)
  at true rest = refl
  at false rest = rest

first_at : {X Y : Type 0} (f : X → Y) (p : X → Bool) (x : X) (xs : List X) (b : Bool) → p x ≡ b → option_map f (find p xs) ≡ slice_get (map f (filter p xs)) 0 → option_map f (find p (x ∷ xs)) ≡ slice_get (map f (filter p (x ∷ xs))) 0
first_at f p x xs true is rest = rw is refl
first_at f p x xs false is rest = rw is rest

pub first_is : {X Y : Type 0} (f : X → Y) (p : X → Bool) (xs : List X) → option_map f (find p xs) ≡ slice_get (map f (filter p xs)) 0
first_is f p [] = refl
first_is f p (x ∷ xs) = first_at f p x xs (p x) refl (first_is f p xs)

pub none_first : {Y : Type 0} (ys : List Y) → is_none (slice_get ys 0) ≡ (length ys == 0)
none_first [] = refl
none_first (y ∷ ys) = not_none (length ys) where
  not_none : (n : ℕ) → false ≡ eqb (suc n) 0
  not_none n = grind (arith, nat_tests)

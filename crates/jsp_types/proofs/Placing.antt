-- Putting a field in its place.
use Rattle.std.proofs.Common.{◌≡◌, ℕ, Bool, true, false, cond, List, [], ◌∷◌, length, take_while, refl, sym, ◌∙◌, ap}
use Rattle.std.specs.Cmp.Lexicographic.{slice_cmp}
use Rattle.std.specs.Ordering.{nat_cmp, is_lt}
use Rattle.std.specs.List.{insert}
use Rattle.std.proofs.lemmas.List.Sums.{take_while-cons}
use Rattle.jsp_types.specs.declared.value.Kind.{Kind}
use Rattle.jsp_types.specs.Classes.{in_order}

abbrev pub is_before : List ℕ → List ℕ × Kind → Bool
is_before name f = is_lt (slice_cmp nat_cmp f.0 name)

pub in_order-insert : (f : List ℕ × Kind) (gs : List (List ℕ × Kind)) → in_order f gs ≡ insert gs (length (take_while (is_before f.0) gs)) f
in_order-insert f [] = refl
in_order-insert f (g ∷ gs) =
    rw take_while-cons
    (elim (is_before f.0 g) as (λ b. cond b (g ∷ in_order f gs) (f ∷ g ∷ gs) ≡ insert (g ∷ gs) (length (cond b (g ∷ take_while (is_before f.0) gs) [])) f)
    [ true ↦ ap (λ xs. g ∷ xs) (in_order-insert f gs) | false ↦ refl ])

pub placed : (f : List ℕ × Kind) (gs searched : List (List ℕ × Kind)) (name : List ℕ) (place : ℕ) (new : List (List ℕ × Kind)) → name ≡ f.0 → searched ≡ gs → place ≡ length (take_while (is_before name) searched) → new ≡ insert gs place f → new ≡ in_order f gs
placed f gs searched name place new same_name same_fields counted inserted =
    let there : place ≡ length (take_while (is_before f.0) gs) =
    counted ∙ ap (λ n. length (take_while (is_before n) searched)) same_name ∙ ap (λ fs. length (take_while (is_before f.0) fs)) same_fields in
    inserted ∙ ap (λ n. insert gs n f) there ∙ sym (in_order-insert f gs)

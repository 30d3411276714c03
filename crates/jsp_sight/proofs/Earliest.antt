-- The first item that is due, found from the last to the first.
use Rattle.std.proofs.Common.{◌≡◌, ℕ, Bool, true, false, cond, List, [], ◌∷◌, ◌++◌, map, Option, Some, None, refl, ap, sym, ◌∙◌}
use Rattle.std.specs.Prelude.{filter, fold, reverse, nat_le}
use Rattle.std.proofs.lemmas.List.{map-append, reverse-append, append-nil}
use Rattle.std.proofs.lemmas.List.Elements.{filter-append}
use Rattle.std.proofs.lemmas.List.Sums.{fold_push}
use Rattle.jsp_lease.specs.declared.item.Item.{Item}
use Rattle.jsp_lease.specs.Due.{first_item, over_by}
use Rattle.jsp_lease.specs.Tournament.{earlier as soonest}
use Rattle.jsp_lease.proofs.Winning.{earlier_assoc, first_at}
use Rattle.jsp_sight.specs.Rows.{earlier}

-- the earliest that is due, of those and another one
abbrev pub sooner : {X : Type 0} → ℕ → (X → Item) → List X → Option Item → Option Item
sooner time f xs first = fold earlier first (map f (filter (λ x. nat_le (f x).end time) (reverse xs)))

over_map : {X : Type 0} (time : ℕ) (f : X → Item) (xs : List X) → map f (filter (λ x. nat_le (f x).end time) xs) ≡ over_by time (map f xs)
over_map time f [] = refl
over_map time f (x ∷ xs) = elim (nat_le (f x).end time) as (λ b. map f (cond b (x ∷ filter (λ x. nat_le (f x).end time) xs) (filter (λ x. nat_le (f x).end time) xs)) ≡ cond b (f x ∷ over_by time (map f xs)) (over_by time (map f xs))) [ true ↦ ap (λ w. f x ∷ w) (over_map time f xs) | false ↦ over_map time f xs ]

-- the earliest of these and another one
abbrev pub first_with : List Item → Option Item → Option Item
first_with [] first = first
first_with (a ∷ items) first = earlier (first_with items first) a

pub with_none : (items : List Item) → first_item items ≡ first_with items None
with_none [] = refl
with_none (a ∷ items) = ap (λ o. earlier o a) (with_none items)

one_more : (time : ℕ) (a : Item) (seen rest : List Item) (first : Option Item) → fold earlier first seen ≡ first_with rest first
    → fold earlier first (seen ++ over_by time (a ∷ [])) ≡ first_with (over_by time (a ∷ []) ++ rest) first
one_more time a seen rest first is =
    elim (nat_le a.end time) as (λ b. fold earlier first (seen ++ cond b (a ∷ []) []) ≡ first_with (cond b (a ∷ []) [] ++ rest) first) [ true ↦ fold_push earlier first seen a ∙ ap (λ o. earlier o a) is | false ↦ ap (fold earlier first) (append-nil seen) ∙ is ]

pub backwards : {X : Type 0} (time : ℕ) (f : X → Item) (xs : List X) (first : Option Item) → fold earlier first (over_by time (map f (reverse xs))) ≡ first_with (over_by time (map f xs)) first
backwards time f [] first = refl
backwards time f (x ∷ xs) first =
    ap (λ w. fold earlier first (over_by time (map f w))) (reverse-append (x ∷ []) xs)
    ∙ ap (λ w. fold earlier first (over_by time w)) (map-append f (reverse xs) (x ∷ []))
    ∙ ap (fold earlier first) (filter-append (λ (i : Item). nat_le i.end time) (map f (reverse xs)) (f x ∷ []))
    ∙ one_more time (f x) (over_by time (map f (reverse xs))) (over_by time (map f xs)) first (backwards time f xs first)
    ∙ ap (λ w. first_with w first) (sym (filter-append (λ (i : Item). nat_le i.end time) (f x ∷ []) (map f xs)))

pub sooner_is : {X : Type 0} (time : ℕ) (f : X → Item) (xs : List X) (first : Option Item) → sooner time f xs first ≡ first_with (over_by time (map f xs)) first
sooner_is time f xs first = ap (fold earlier first) (over_map time f (reverse xs)) ∙ backwards time f xs first

-- the first one of a list, found from the last to the first
pub first_is_sooner : {X : Type 0} (time : ℕ) (f : X → Item) (xs : List X) → sooner time f xs None ≡ first_item (over_by time (map f xs))
first_is_sooner time f xs = sooner_is time f xs None ∙ sym (with_none (over_by time (map f xs)))

-- the first one of a list, and another one
pub with_is : (items : List Item) (first : Option Item) → first_with items first ≡ soonest (first_item items) first
with_is [] first = refl
with_is (a ∷ items) first =
    ap (λ o. earlier o a) (with_is items first) ∙ sym (first_at a (soonest (first_item items) first)) ∙ sym (earlier_assoc (Some a) (first_item items) first)
    ∙ ap (λ o. soonest o first) (first_at a (first_item items))

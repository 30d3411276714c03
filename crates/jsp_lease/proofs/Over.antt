-- The first of the items whose end has come.
use Rattle.std.proofs.Common.{◌≡◌, ℕ, Bool, true, false, cond, leb, List, [], ◌∷◌, Option, Some, None, refl, ap, sym, ◌∙◌, arith}
use Rattle.std.proofs.lemmas.Bool.{leb-true, leb-false}
use Rattle.jsp_lease.specs.declared.item.Item.{Item}
use Rattle.jsp_lease.specs.Due.{is_before, first_item, over_by}
use Rattle.jsp_lease.specs.Tournament.{earlier}
use Rattle.jsp_lease.proofs.Order.{asym, end_first}
use Rattle.jsp_lease.proofs.Winning.{first_at}

-- the item, if its end has come
abbrev pub if_over : ℕ → Option Item → Option Item
if_over time None = None
if_over time (Some a) = cond (leb a.end time) (Some a) None

one_more : (time : ℕ) (x y z : Bool) (a b : Item) → leb a.end time ≡ x → leb b.end time ≡ y → is_before b a ≡ z
    → cond x (earlier (Some a) (if_over time (Some b))) (if_over time (Some b)) ≡ if_over time (earlier (Some a) (Some b))
one_more time true true true a b h k l = simp (k, l) refl
one_more time true true false a b h k l = simp (h, k, l) refl
one_more time true false true a b h k l =
    let over = leb-true a.end time h in
    let not_over = leb-false b.end time k in
    absurd (omega (arith, end_first a b (asym b a l)))
one_more time true false false a b h k l = simp (h, k, l) refl
one_more time false true true a b h k l = simp (k, l) refl
one_more time false true false a b h k l =
    let not_over = leb-false a.end time h in
    let over = leb-true b.end time k in
    absurd (omega (arith, end_first b a l))
one_more time false false true a b h k l = simp (k, l) refl
one_more time false false false a b h k l = simp (h, k, l) refl

more : (time : ℕ) (x : Bool) (a : Item) (rest : Option Item) → leb a.end time ≡ x
    → cond x (earlier (Some a) (if_over time rest)) (if_over time rest) ≡ if_over time (earlier (Some a) rest)
more time true a None h = simp h refl
more time false a None h = simp h refl
more time x a (Some b) h = one_more time x (leb b.end time) (is_before b a) a b h refl refl

first_of : (time : ℕ) (x : Bool) (a : Item) (items : List Item) → leb a.end time ≡ x
    → first_item (cond x (a ∷ over_by time items) (over_by time items)) ≡ cond x (earlier (Some a) (first_item (over_by time items))) (first_item (over_by time items))
first_of time true a items h = sym (first_at a (first_item (over_by time items)))
first_of time false a items h = refl

-- since the end comes first in the order
pub first_over : (time : ℕ) (items : List Item) → first_item (over_by time items) ≡ if_over time (first_item items)
first_over time [] = refl
first_over time (a ∷ items) =
    let x = leb a.end time in
    first_of time x a items refl
    ∙ (ap (λ w. cond x (earlier (Some a) w) w) (first_over time items)
    ∙ (more time x a (first_item items) refl ∙ ap (if_over time) (first_at a (first_item items))))

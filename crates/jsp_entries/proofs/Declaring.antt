-- Declarations: their fields that have a kind, and why they are refused.
use Rattle.std.proofs.Common.{◌≡◌, ℕ, ◌+◌, ◌<◌, Bool, true, false, cond, List, [], ◌∷◌, ◌++◌, length, take, get_or, Option, Some, None, arith, suc, refl, ap, sym, ◌∙◌}
use Rattle.std.specs.Prelude.{option_map, is_none, not, nat_le, ◌&&◌, ◌||◌}
use Rattle.std.proofs.lemmas.Bool.Decides.{nat_tests}
use Rattle.std.specs.List.{list_all, list_any}
use Rattle.std.proofs.lemmas.List.{take_more}
use Rattle.std.specs.Cmp.Lexicographic.{slice_cmp}
use Rattle.std.specs.Ordering.{nat_cmp, is_lt}
use Rattle.jsp_types.specs.declared.value.Kind.{Kind}
use Rattle.jsp_types.specs.declared.class.ClassFault.TheVariants as class
use Rattle.jsp_types.specs.Classes.{class_fault, in_order, sorted, is_name, are_distinct, is_ill_formed, differs, lacks_parent, inherits_badly, are_full}
use Rattle.jsp_types.specs.Tests.{first_that}
use Rattle.jsp_wire.specs.declared.ask.Declare.{Declare}
use Rattle.jsp_reply.specs.declared.refusal.Refusal.TheVariants as refusals
use Rattle.jsp_model.specs.declared.state.State.{State}
use Rattle.jsp_model.specs.Requests.{kinded, class_asked}
use Rattle.jsp_model.specs.Refusals.{declare_tests}
use Rattle.jsp_entries.specs.Declaring.{refusal_of}

kinded_append : (xs ys : List (List ℕ × Option Kind)) → kinded (xs ++ ys) ≡ kinded xs ++ kinded ys
kinded_append [] ys = refl
kinded_append ((n, None) ∷ xs) ys = kinded_append xs ys
kinded_append ((n, Some k) ∷ xs) ys = ap (λ w. (n, k) ∷ w) (kinded_append xs ys)

-- one field more
pub kinded_more : (xs : List (List ℕ × Option Kind)) (i : ℕ) (x : List ℕ × Option Kind) (found now : List (List ℕ × Kind)) → i < length xs → x ≡ get_or xs i x → found ≡ kinded (take i xs) → now ≡ found ++ kinded (x ∷ []) → now ≡ kinded (take (i + 1) xs)
kinded_more xs i x found now lt is so then' =
    then' ∙ (ap (λ w. w ++ kinded (x ∷ [])) so ∙ (sym (kinded_append (take i xs) (x ∷ [])) ∙ ap kinded (ap (λ w. take i xs ++ w ∷ []) is ∙ sym (take_more xs i x lt))))

-- a class's fault, as the refusal of its declaration
class_refused : (a b c d e : Bool)
    → first_that ((a, refusals.BadClass) ∷ (b, refusals.Differs) ∷ (c, refusals.UnknownClass) ∷ (d, refusals.BadClass) ∷ (e, refusals.TooMany) ∷ [])
    ≡ option_map refusal_of (first_that ((a, class.BadClass) ∷ (b, class.Differs) ∷ (c, class.UnknownParent) ∷ (d, class.BadClass) ∷ (e, class.TooMany) ∷ []))
class_refused true b c d e = refl
class_refused false true c d e = refl
class_refused false false true d e = refl
class_refused false false false true e = refl
class_refused false false false false true = refl
class_refused false false false false false = refl

pub declare_class : (st : State) (d : Declare) → list_any (λ f. is_none f.1) d.fields ≡ false → option_map refusal_of (class_fault st.classes (class_asked d)) ≡ first_that (declare_tests st d)
declare_class st d kinds =
    let c = class_asked d in
    rw kinds (sym (class_refused (is_ill_formed c) (differs st.classes c) (lacks_parent st.classes c) (inherits_badly st.classes c) (are_full st.classes c)))

-- there are more fields than a class may have
kinded_length : (fields : List (List ℕ × Option Kind)) → list_any (λ f. is_none f.1) fields ≡ false → length (kinded fields) ≡ length fields
kinded_length [] h = refl
kinded_length ((n, None) ∷ fields) h = cc (h)
kinded_length ((n, Some k) ∷ fields) h = ap suc (kinded_length fields h)

in_order_length : (f : List ℕ × Kind) (fields : List (List ℕ × Kind)) → length (in_order f fields) ≡ suc (length fields)
in_order_length f [] = refl
in_order_length f (g ∷ fields) = at (is_lt (slice_cmp nat_cmp g.0 f.0)) (in_order_length f fields)
  where
    at : (b : Bool) → length (in_order f fields) ≡ suc (length fields) → length (cond b (g ∷ in_order f fields) (f ∷ g ∷ fields)) ≡ suc (suc (length fields))
    at true h = ap suc h
    at false h = refl

sorted_length : (fields : List (List ℕ × Kind)) → length (sorted fields) ≡ length fields
sorted_length [] = refl
sorted_length (f ∷ fields) = in_order_length f (sorted fields) ∙ ap suc (sorted_length fields)

or_second : (x y : Bool) → y ≡ true → (x || y) ≡ true
or_second true y h = refl
or_second false y h = h

first_applies : {F : Type 0} (b : Bool) (f : F) (rest : Option F) → b ≡ true → cond b (Some f) rest ≡ Some f
first_applies true f rest h = refl
first_applies false f rest h = cc (h)

pub declare_many : (st : State) (d : Declare) → list_any (λ f. is_none f.1) d.fields ≡ false → 32 < length d.fields → first_that (declare_tests st d) ≡ Some refusals.BadClass
declare_many st d kinds many =
    let c = class_asked d in
    let same : length c.fields ≡ length d.fields = sorted_length (kinded d.fields) ∙ kinded_length d.fields kinds in
    let few : nat_le (length c.fields) 32 ≡ false = grind (arith, nat_tests) in
    let ill : is_ill_formed c ≡ true = ap (λ b. not (b && is_name c.name && list_all (λ f. is_name f.0) c.fields && are_distinct c.fields)) few in
    first_applies (list_any (λ f. is_none f.1) d.fields || is_ill_formed c) refusals.BadClass _ (or_second (list_any (λ f. is_none f.1) d.fields) (is_ill_formed c) ill)

-- the fields of a declaration that isn't refused have kinds, and its class has no fault
first_none : {F : Type 0} (b : Bool) (f : F) (rest : Option F) → cond b (Some f) rest ≡ None → (b ≡ false) × (rest ≡ None)
first_none true f rest h = cc (h)
first_none false f rest h = (refl, h)

or_parts : (x y : Bool) → (x || y) ≡ false → (x ≡ false) × (y ≡ false)
or_parts true y h = cc (h)
or_parts false y h = (refl, h)

pub declare_good : (st : State) (d : Declare) → first_that (declare_tests st d) ≡ None → class_fault st.classes (class_asked d) ≡ None
declare_good st d h =
    let c = class_asked d in
    let ill = first_none (list_any (λ f. is_none f.1) d.fields || is_ill_formed c) _ _ h in
    let other = first_none (differs st.classes c) _ _ ill.1 in
    let parent = first_none (lacks_parent st.classes c) _ _ other.1 in
    let inherits = first_none (inherits_badly st.classes c) _ _ parent.1 in
    let full = first_none (are_full st.classes c) _ _ inherits.1 in
    rw ((or_parts (list_any (λ f. is_none f.1) d.fields) (is_ill_formed c) ill.0).1, other.0, parent.0, inherits.0, full.0) refl

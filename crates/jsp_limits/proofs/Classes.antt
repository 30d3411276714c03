-- A class that is declared keeps the limits, and by those of the classes entries and templates keep theirs.
use Rattle.std.proofs.Common.{◌≡◌, ℕ, ◌+◌, ◌<◌, ◌≤◌, Bool, true, false, not, cond, nat_lt, nat_le, List, [], ◌∷◌, ◌++◌, map, length, Option, Some, None, is_some, option_and_then, bytes_eq, filter_map, refl, ap, sym, ◌∙◌, subst, arith, length-append}
use Rattle.std.specs.Prelude.{◌&&◌, ◌||◌}
use Rattle.std.specs.List.{list_all, list_any}
use Rattle.std.specs.Option.{option_map_or}
use Rattle.std.proofs.lemmas.Bool.{and_parts, and_from, not-false, or_parts}
use Rattle.std.proofs.lemmas.Bool.Decides.{nat_tests}
use Rattle.std.proofs.lemmas.List.{length-map}
use Rattle.std.proofs.lemmas.List.Folds.{list_all-append, list_all-map}
use Rattle.std.proofs.lemmas.Slice.Eq.{bytes_eq-Decides}
use Rattle.jsp_types.specs.declared.value.Kind.{Kind}
use Rattle.jsp_types.specs.declared.class.Class.{Class}
use Rattle.jsp_types.specs.declared.entry.Raw.{Raw}
use Rattle.jsp_types.specs.Classes.{class_named, is_declared, fields_of, inherited, line_above, depth_above, has_name, is_name, are_distinct, is_within_limits, is_ill_formed, is_new, lacks_parent, inherits_badly, are_full, declared}
use Rattle.jsp_types.specs.Matching.{value_at, text_size, entry_of, is_field_of, is_bad, is_unknown, is_small, is_small_template, template_of}
use Rattle.jsp_types.proofs.Growing.{HasParents, is_declared-grown, fields_of-grown}
use Rattle.jsp_types.proofs.Joining.{parent_declared, depth_above-line_above, fields_of-new, are_short, name_is_short, names_are_short}
use Rattle.jsp_model.specs.Limits.{is_class, AreClasses}
use Rattle.jsp_limits.proofs.Lists.{all_push, length_push, found_all}

all_two : {A : Type 0} (p q r : A → Bool) → ((x : A) → p x ≡ true → q x ≡ true → r x ≡ true) → (xs : List A) → list_all p xs ≡ true → list_all q xs ≡ true → list_all r xs ≡ true
all_two p q r f [] h k = refl
all_two p q r f (x ∷ xs) h k =
    let a = and_parts (p x) (list_all p xs) h in
    let b = and_parts (q x) (list_all q xs) k in
    and_from (r x) (list_all r xs) (f x a.0 b.0) (all_two p q r f xs a.1 b.1)

-- ---- what the classes keep

has_parents : (classes : List Class) → list_all (is_class classes) classes ≡ true → HasParents classes
has_parents classes h name p e = go (class_named classes name) refl e
  where
    go : (o : Option Class) → class_named classes name ≡ o → option_and_then (λ d. d.parent) o ≡ Some p → is_declared classes p ≡ true
    go None found e = absurd (cc)
    go (Some c) found e =
        let one = (found_all (is_class classes) (λ d. bytes_eq d.name name) classes c h found).0 in
        let parent = (and_parts (option_map_or (is_declared classes) c.parent true) (is_within_limits c.name (fields_of classes c.name)) one).0 in
        subst (λ q. option_map_or (is_declared classes) q true ≡ true) e parent

pub declared_small : (classes : List Class) (name : List ℕ) → list_all (is_class classes) classes ≡ true → is_declared classes name ≡ true → is_within_limits name (fields_of classes name) ≡ true
declared_small classes name h there = go (class_named classes name) refl there
  where
    go : (o : Option Class) → class_named classes name ≡ o → is_some o ≡ true → is_within_limits name (fields_of classes name) ≡ true
    go None found e = absurd (cc)
    go (Some c) found e =
        let one = found_all (is_class classes) (λ d. bytes_eq d.name name) classes c h found in
        let same : c.name ≡ name = (bytes_eq-Decides c.name name).0 one.1 in
        let small = (and_parts (option_map_or (is_declared classes) c.parent true) (is_within_limits c.name (fields_of classes c.name)) one.0).1 in
        subst (λ n. is_within_limits n (fields_of classes n) ≡ true) same small

all_declared : (classes xs : List Class) → ((name : List ℕ) → is_declared xs name ≡ true → is_declared classes name ≡ true) → list_all (λ d. is_declared classes d.name) xs ≡ true
all_declared classes [] f = refl
all_declared classes (d ∷ xs) f =
    let same : bytes_eq d.name d.name ≡ true = (bytes_eq-Decides d.name d.name).1 refl in
    and_from (is_declared classes d.name) (list_all (λ d. is_declared classes d.name) xs) (f d.name (rw same refl)) (all_declared classes xs (λ name e. f name (later name (bytes_eq d.name name) e)))
  where
    later : (name : List ℕ) (b : Bool) → is_declared xs name ≡ true → is_some (cond b (Some d) (class_named xs name)) ≡ true
    later name true e = refl
    later name false e = e

-- ---- a class is declared

inherited_short : (classes : List Class) (o : Option (List ℕ)) → list_all (is_class classes) classes ≡ true → option_map_or (is_declared classes) o true ≡ true → are_short (option_map_or (fields_of classes) o []) ≡ true
inherited_short classes None h there = refl
inherited_short classes (Some p) h there = (and_parts (nat_le (length p) 64 && nat_le (length (fields_of classes p)) 32) (are_short (fields_of classes p)) (declared_small classes p h there)).1

none_named : (o : Option Class) → not (is_some o) ≡ true → o ≡ None
none_named None e = refl
none_named (Some c) e = absurd (cc)

-- the tests of a declaration, which all failed
pub record IsAccepted (classes : List Class) (c : Class) : Type 0 where
  pub formed : is_ill_formed c ≡ false
  pub parent : lacks_parent classes c ≡ false
  pub inherits : inherits_badly classes c ≡ false
  pub room : are_full classes c ≡ false

class_added : (classes : List Class) (c : Class) → AreClasses classes → IsAccepted classes c → is_new classes c ≡ true → AreClasses (classes ++ c ∷ [])
class_added classes c h fine new =
    let absent : class_named classes c.name ≡ None = none_named (class_named classes c.name) new in
    let closed = has_parents classes h.each in
    let there = parent_declared classes c.parent (rw new at fine.parent) in
    let limits : ((list_any (λ f. has_name c.fields f.0) (inherited classes c) || nat_lt 15 (depth_above classes c)) || nat_lt 32 (length (inherited classes c) + length c.fields)) ≡ false = rw new at fine.inherits in
    let parts = or_parts (list_any (λ f. has_name c.fields f.0) (inherited classes c) || nat_lt 15 (depth_above classes c)) (nat_lt 32 (length (inherited classes c) + length c.fields)) limits in
    let shallow = (or_parts (list_any (λ f. has_name c.fields f.0) (inherited classes c)) (nat_lt 15 (depth_above classes c)) parts.0).1 in
    let few = parts.1 in
    let depth = depth_above-line_above classes c.parent in
    let short : length (line_above classes c) ≤ 15 = grind (arith, nat_tests) in
    let fields = fields_of-new classes c closed absent there short in
    let formed = and_parts (nat_le (length c.fields) 32 && is_name c.name && list_all (λ f. is_name f.0) c.fields) (are_distinct c.fields) (not-false (nat_le (length c.fields) 32 && is_name c.name && list_all (λ f. is_name f.0) c.fields && are_distinct c.fields) fine.formed) in
    let names = and_parts (nat_le (length c.fields) 32 && is_name c.name) (list_all (λ f. is_name f.0) c.fields) formed.0 in
    let long = length-append (inherited classes c) c.fields in
    let count : nat_le (length (inherited classes c ++ c.fields)) 32 ≡ true = grind (arith, nat_tests) in
    let all_short : are_short (inherited classes c ++ c.fields) ≡ true =
    list_all-append (λ f. nat_le (length f.0) 64) (inherited classes c) c.fields
    ∙ and_from (are_short (inherited classes c)) (are_short c.fields) (inherited_short classes c.parent h.each there) (names_are_short c.fields names.1) in
    let small : is_within_limits c.name (inherited classes c ++ c.fields) ≡ true =
    and_from (nat_le (length c.name) 64 && nat_le (length (inherited classes c ++ c.fields)) 32) (are_short (inherited classes c ++ c.fields))
    (and_from (nat_le (length c.name) 64) (nat_le (length (inherited classes c ++ c.fields)) 32) (name_is_short c.name (and_parts (nat_le (length c.fields) 32) (is_name c.name) names.0).1) count) all_short in
    let itself : is_class (classes ++ c ∷ []) c ≡ true = and_from (option_map_or (is_declared (classes ++ c ∷ [])) c.parent true) (is_within_limits c.name (fields_of (classes ++ c ∷ []) c.name))
    (still c.parent there) (subst (λ fs. is_within_limits c.name fs ≡ true) (sym fields) small) in
    let others : list_all (is_class (classes ++ c ∷ [])) classes ≡ true =
    all_two (is_class classes) (λ d. is_declared classes d.name) (is_class (classes ++ c ∷ [])) (λ d one is.
    (let two = and_parts (option_map_or (is_declared classes) d.parent true) (is_within_limits d.name (fields_of classes d.name)) one in
    and_from (option_map_or (is_declared (classes ++ c ∷ [])) d.parent true) (is_within_limits d.name (fields_of (classes ++ c ∷ []) d.name))
    (still d.parent two.0) (subst (λ fs. is_within_limits d.name fs ≡ true) (sym (fields_of-grown classes c d.name closed is)) two.1)))
    classes h.each (all_declared classes classes (λ name e. e)) in
    let full = fine.room in
    let room : nat_le 1024 (length classes) ≡ false = rw new at fine.room in
    let less : length classes < 1024 = grind (arith, nat_tests) in
    record { each = all_push (is_class (classes ++ c ∷ [])) classes c others itself; count = omega (arith, length_push classes c, less) }
  where
    still : (o : Option (List ℕ)) → option_map_or (is_declared classes) o true ≡ true → option_map_or (is_declared (classes ++ c ∷ [])) o true ≡ true
    still None e = refl
    still (Some p) e = is_declared-grown classes c p e

pub class_declared : (classes : List Class) (c : Class) → AreClasses classes → IsAccepted classes c → AreClasses (declared classes c)
class_declared classes c h fine = go (is_new classes c) refl
  where
    go : (b : Bool) → is_new classes c ≡ b → AreClasses (cond b (classes ++ c ∷ []) classes)
    go true e = class_added classes c h fine e
    go false e = h

-- ---- entries and templates

pub entry_small : (classes : List Class) (raw : Raw) → AreClasses classes → is_unknown classes raw ≡ false → is_bad classes raw ≡ false → is_small (entry_of classes raw) ≡ true
entry_small classes raw h known good =
    let fields : List (List ℕ × Kind) = fields_of classes raw.class in
    let within = declared_small classes raw.class h.each (not-false (is_declared classes raw.class) known) in
    let limits = and_parts (nat_le (length raw.class) 64 && nat_le (length fields) 32) (are_short fields) within in
    let lengths = and_parts (nat_le (length raw.class) 64) (nat_le (length fields) 32) limits.0 in
    let text = (and_parts (are_distinct raw.fields && list_all (is_field_of classes raw.class) raw.fields) (nat_le (text_size (entry_of classes raw).fields) 8192) (not-false _ good)).1 in
    and_from _ _
    (and_from _ _
    (and_from _ _ lengths.0 (ap (λ n. nat_le n 32) (length-map fields (λ f. (f.0, value_at raw.fields f.0))) ∙ lengths.1))
    (list_all-map (λ f. nat_le (length f.0) 64) (λ f. (f.0, value_at raw.fields f.0)) fields ∙ limits.1))
    text

-- templates that aren't refused
pub templates_small : (classes : List Class) (ts : List (Option Raw)) → AreClasses classes → list_any (is_unknown classes) (filter_map (λ t. t) ts) ≡ false → list_any (is_bad classes) (filter_map (λ t. t) ts) ≡ false → list_all is_small_template (map (template_of classes) ts) ≡ true
templates_small classes [] h known good = refl
templates_small classes (None ∷ ts) h known good = templates_small classes ts h known good
templates_small classes (Some raw ∷ ts) h known good =
    let a = or_parts (is_unknown classes raw) (list_any (is_unknown classes) (filter_map (λ t. t) ts)) known in
    let b = or_parts (is_bad classes raw) (list_any (is_bad classes) (filter_map (λ t. t) ts)) good in
    and_from (is_small (entry_of classes raw)) (list_all is_small_template (map (template_of classes) ts)) (entry_small classes raw h a.0 b.0) (templates_small classes ts h a.1 b.1)

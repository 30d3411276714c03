-- A class that isn't refused joins the kept ones.
use Rattle.std.proofs.Common.{◌≡◌, ℕ, ◌≤◌, Bool, true, false, not, cond, ◌&&◌, ◌||◌, nat_lt, nat_le, List, [], ◌∷◌, ◌++◌, reverse, length, Option, Some, None, option_map, option_and_then, is_some, bytes_eq, flat_map, MatchOption, refl, sym, ◌∙◌, ap, subst, arith}
use Rattle.std.specs.List.{All, list_all, list_any}
use Rattle.std.specs.Option.{option_map_or}
use Rattle.std.proofs.lemmas.Bool.{and_parts, and_from}
use Rattle.std.proofs.lemmas.Bool.Decides.{nat_tests}
use Rattle.std.proofs.lemmas.List.{map-append, length-append, append-nil}
use Rattle.std.proofs.lemmas.List.Elements.{All-push, All-weaker}
use Rattle.std.proofs.lemmas.List.Folds.{list_all-append}
use denote.Ref.{Bor}
use Rattle.jsp_types.specs.declared.value.Kind.{Kind}
use Rattle.jsp_types.specs.declared.class.Class.{Class}
use Rattle.jsp_types.specs.declared.known.Known.{Known}
use Rattle.jsp_types.specs.Classes.{class_named, is_declared, parent_of, line_up_to, line_of, own_fields, fields_of, inherited, line_above, depth_above, has_name, is_name_byte, is_name, are_distinct, is_within_limits, is_ill_formed, class_fault}
use Rattle.jsp_types.specs.Declaring.{has_unknown_parent, is_past_limits, new_fault}
use Rattle.jsp_types.specs.Known.{classes_of, IsKept, AreKept, IsKeptOf}
use Rattle.jsp_types.proofs.Finding.{known_named, class_named-classes_of, find_passes, IsKeptOf-known_named}
use Rattle.jsp_types.proofs.Growing.{HasParents, class_named-new, is_declared-grown, line_up_to-grown, line_up_to-declared, line_up_to-short, own_fields-grown, fields_of-grown, flat_map-reverse}

-- ---- what is known of a class that isn't refused

pub record IsAcceptable (classes : List Class) (c : Class) : Type 0 where
  pub well_formed : is_ill_formed c ≡ false
  pub parent : has_unknown_parent classes c ≡ false
  pub limits : is_past_limits classes c ≡ false

first_test : {F : Type 0} (t : Bool) (x : F) (rest : Option F) → cond t (Some x) rest ≡ None → (t ≡ false) × (rest ≡ None)
first_test true x rest e = cc
first_test false x rest e = (refl, e)

class_fault-new : (classes : List Class) (c : Class) → class_named classes c.name ≡ None → is_ill_formed c ≡ false → class_fault classes c ≡ new_fault classes c
class_fault-new classes c new well = rw (well, new)

pub acceptable : (classes : List Class) (c : Class) → class_named classes c.name ≡ None → class_fault classes c ≡ None → IsAcceptable classes c
acceptable classes c new fine =
    let well = (first_test (is_ill_formed c) _ _ fine).0 in
    let later = sym (class_fault-new classes c new well) ∙ fine in
    let parent = first_test (has_unknown_parent classes c) _ _ later in
    let limits = first_test (is_past_limits classes c) _ _ parent.1 in
    record { well_formed = well; parent = parent.0; limits = limits.0 }

or_parts : (x y : Bool) → (x || y) ≡ false → (x ≡ false) × (y ≡ false)
or_parts true y e = cc
or_parts false y e = (refl, e)

not-false : (b : Bool) → not b ≡ false → b ≡ true
not-false true e = refl
not-false false e = cc

pub parent_declared : (classes : List Class) (o : Option (List ℕ)) → option_map_or (λ p. not (is_declared classes p)) o false ≡ false → option_map_or (is_declared classes) o true ≡ true
parent_declared classes None e = refl
parent_declared classes (Some p) e = not-false _ e

pub depth_above-line_above : (classes : List Class) (o : Option (List ℕ)) → option_map_or (λ p. length (line_of classes p)) o 0 ≡ length (option_map_or (line_of classes) o [])
depth_above-line_above classes None = refl
depth_above-line_above classes (Some p) = refl

pub line_is_short : (classes : List Class) (c : Class) → is_past_limits classes c ≡ false → length (line_above classes c) ≤ 15
line_is_short classes c limits =
    let parts = or_parts (list_any (λ f. has_name c.fields f.0) (inherited classes c) || nat_lt 15 (depth_above classes c)) _ limits in
    let shallow = (or_parts (list_any (λ f. has_name c.fields f.0) (inherited classes c)) _ parts.0).1 in
    let same = depth_above-line_above classes c.parent in
    grind (arith, nat_tests)

fields_are_few : (classes : List Class) (c : Class) → is_past_limits classes c ≡ false → length (inherited classes c ++ c.fields) ≤ 32
fields_are_few classes c limits =
    let few = (or_parts (list_any (λ f. has_name c.fields f.0) (inherited classes c) || nat_lt 15 (depth_above classes c)) _ limits).1 in
    let long = length-append (inherited classes c) c.fields in
    grind (arith, nat_tests)

-- ---- the line and the fields of the class that joins

pub line_of-new : (classes : List Class) (c : Class) → HasParents classes → class_named classes c.name ≡ None → option_map_or (is_declared classes) c.parent true ≡ true → length (line_above classes c) ≤ 15 → line_of (classes ++ c ∷ []) c.name ≡ c.name ∷ line_above classes c
line_of-new classes c closed new there short =
    let Goal : Option (List ℕ) → Type 0 =
    λ o. option_map_or (is_declared classes) o true ≡ true → length (option_map_or (line_of classes) o []) ≤ 15 → option_map_or (line_up_to 15 (classes ++ c ∷ [])) o [] ≡ option_map_or (line_of classes) o [] in
    let by_cases : (o : Option (List ℕ)) → Goal o = λ o. elim o as Goal [
      | None ↦ λ e l. refl
      | Some p ↦ λ e l. line_up_to-grown 15 classes c p closed e ∙ line_up_to-short 15 classes p l
    ] in
    let same : parent_of (classes ++ c ∷ []) c.name ≡ c.parent = ap (option_and_then (λ d. d.parent)) (class_named-new classes c new) in
    ap (λ xs. c.name ∷ xs)
    (ap (λ o. option_map_or (line_up_to 15 (classes ++ c ∷ [])) o []) same ∙ by_cases c.parent there short)

line_above-declared : (classes : List Class) (c : Class) → HasParents classes → option_map_or (is_declared classes) c.parent true ≡ true → list_all (is_declared classes) (line_above classes c) ≡ true
line_above-declared classes c closed there =
    let Goal : Option (List ℕ) → Type 0 =
    λ o. option_map_or (is_declared classes) o true ≡ true → list_all (is_declared classes) (option_map_or (line_of classes) o []) ≡ true in
    let by_cases : (o : Option (List ℕ)) → Goal o = λ o. elim o as Goal [
      | None ↦ λ e. refl
      | Some p ↦ λ e. line_up_to-declared 16 classes p closed e
    ] in
    by_cases c.parent there

inherited-line_above : (classes : List Class) (o : Option (List ℕ)) → flat_map (own_fields classes) (reverse (option_map_or (line_of classes) o [])) ≡ option_map_or (fields_of classes) o []
inherited-line_above classes None = refl
inherited-line_above classes (Some p) = refl

pub fields_of-new : (classes : List Class) (c : Class) → HasParents classes → class_named classes c.name ≡ None → option_map_or (is_declared classes) c.parent true ≡ true → length (line_above classes c) ≤ 15 → fields_of (classes ++ c ∷ []) c.name ≡ inherited classes c ++ c.fields
fields_of-new classes c closed new there short =
    let own : flat_map (own_fields (classes ++ c ∷ [])) (c.name ∷ []) ≡ c.fields ++ [] = ap (λ o. option_map_or (λ d. d.fields) o [] ++ []) (class_named-new classes c new) in
    ap (λ line. flat_map (own_fields (classes ++ c ∷ [])) (reverse line)) (line_of-new classes c closed new there short)
    ∙ flat_map-reverse (own_fields (classes ++ c ∷ [])) c.name (line_above classes c)
    ∙ ap (λ xs. xs ++ flat_map (own_fields (classes ++ c ∷ [])) (c.name ∷ [])) (own_fields-grown classes c (line_above classes c) (line_above-declared classes c closed there) ∙ inherited-line_above classes c.parent)
    ∙ ap (λ xs. inherited classes c ++ xs) (own ∙ append-nil c.fields)

-- ---- the kept classes

pub has_parents : (known : List Known) → AreKept known → HasParents (classes_of known)
has_parents known kept name p is_parent =
    let classes : List Class = classes_of known in
    let Goal : Option Known → Type 0 =
    λ o. known_named known name ≡ o → option_and_then (λ d. d.parent) (option_map (λ k. k.class) o) ≡ Some p → is_declared classes p ≡ true in
    let by_cases : (o : Option Known) → Goal o = λ o. elim o as Goal [
      | None ↦ λ found e. cc
      | Some k ↦ λ found e.
          let one = (find_passes (λ k. bytes_eq k.class.name name) (IsKept classes) known k kept found).1 in
          subst (λ q. option_map_or (is_declared classes) q true ≡ true) e one.parent_declared
    ] in
    by_cases (known_named known name) refl (sym (ap (option_and_then (λ d. d.parent)) (class_named-classes_of known name)) ∙ is_parent)

IsKept-grown : (classes : List Class) (c : Class) (k : Known) → HasParents classes → IsKept classes k → IsKept (classes ++ c ∷ []) k
IsKept-grown classes c k closed one =
    let Goal : Option (List ℕ) → Type 0 =
    λ o. option_map_or (is_declared classes) o true ≡ true → option_map_or (is_declared (classes ++ c ∷ [])) o true ≡ true in
    let by_cases : (o : Option (List ℕ)) → Goal o = λ o. elim o as Goal [
      | None ↦ λ e. refl
      | Some p ↦ λ e. is_declared-grown classes c p e
    ] in
    record {
      is_there = is_declared-grown classes c k.class.name one.is_there;
      line = one.line ∙ sym (line_up_to-grown 16 classes c k.class.name closed one.is_there);
      fields = one.fields ∙ sym (fields_of-grown classes c k.class.name closed one.is_there);
      parent_declared = by_cases k.class.parent one.parent_declared;
      within_limits = one.within_limits;
    }

-- ---- the limits

abbrev pub are_short : List (List ℕ × Kind) → Bool
are_short fields = list_all (λ f. nat_le (length f.0) 64) fields

pub name_is_short : (name : List ℕ) → is_name name ≡ true → nat_le (length name) 64 ≡ true
name_is_short name one =
    (and_parts (nat_lt 0 (length name)) (nat_le (length name) 64) (and_parts (nat_lt 0 (length name) && nat_le (length name) 64) (list_all is_name_byte name) one).0).1

pub names_are_short : (fields : List (List ℕ × Kind)) → list_all (λ f. is_name f.0) fields ≡ true → are_short fields ≡ true
names_are_short [] all = refl
names_are_short (f ∷ fs) all =
    let both = and_parts (is_name f.0) (list_all (λ g. is_name g.0) fs) all in
    and_from _ _ (name_is_short f.0 both.0) (names_are_short fs both.1)

inherited_are_short : (known : List Known) (o : Option (List ℕ)) → AreKept known → option_map_or (is_declared (classes_of known)) o true ≡ true → are_short (option_map_or (fields_of (classes_of known)) o []) ≡ true
inherited_are_short known None kept there = refl
inherited_are_short known (Some p) kept there =
    let classes : List Class = classes_of known in
    let Goal : Option Known → Type 0 =
    λ o. known_named known p ≡ o → is_some (option_map (λ k. k.class) o) ≡ true → are_short (fields_of classes p) ≡ true in
    let by_cases : (o : Option Known) → Goal o = λ o. elim o as Goal [
      | None ↦ λ found e. cc
      | Some k ↦ λ found e.
          let one = IsKeptOf-known_named known p k kept found in
          subst (λ fs. are_short fs ≡ true) one.fields (and_parts (nat_le (length p) 64 && nat_le (length k.fields) 32) (are_short k.fields) one.within_limits).1
    ] in
    by_cases (known_named known p) refl (sym (ap is_some (class_named-classes_of known p)) ∙ there)

within_limits : (known : List Known) (c : Class) → AreKept known → IsAcceptable (classes_of known) c → is_within_limits c.name (inherited (classes_of known) c ++ c.fields) ≡ true
within_limits known c kept fine =
    let classes : List Class = classes_of known in
    let formed = and_parts (nat_le (length c.fields) 32 && is_name c.name && list_all (λ f. is_name f.0) c.fields) (are_distinct c.fields) (not-false _ fine.well_formed) in
    let fields_named = and_parts (nat_le (length c.fields) 32 && is_name c.name) (list_all (λ f. is_name f.0) c.fields) formed.0 in
    let named = and_parts (nat_le (length c.fields) 32) (is_name c.name) fields_named.0 in
    let there = parent_declared classes c.parent fine.parent in
    let few : length (inherited classes c ++ c.fields) ≤ 32 = fields_are_few classes c fine.limits in
    let short : are_short (inherited classes c ++ c.fields) ≡ true =
    list_all-append (λ f. nat_le (length f.0) 64) (inherited classes c) c.fields
    ∙ and_from _ _ (inherited_are_short known c.parent kept there) (names_are_short c.fields fields_named.1) in
    and_from _ _ (and_from _ _ (name_is_short c.name named.1) (grind (arith, nat_tests))) short

-- ---- joining

joined_is_kept : (known : List Known) (k : Known) → AreKept known → class_named (classes_of known) k.class.name ≡ None → IsAcceptable (classes_of known) k.class → k.line ≡ k.class.name ∷ line_above (classes_of known) k.class → k.fields ≡ inherited (classes_of known) k.class ++ k.class.fields → IsKept (classes_of known ++ k.class ∷ []) k
joined_is_kept known k kept new fine line fields =
    let classes : List Class = classes_of known in
    let closed = has_parents known kept in
    let there = parent_declared classes k.class.parent fine.parent in
    let short = line_is_short classes k.class fine.limits in
    let Goal : Option (List ℕ) → Type 0 =
    λ o. option_map_or (is_declared classes) o true ≡ true → option_map_or (is_declared (classes ++ k.class ∷ [])) o true ≡ true in
    let by_cases : (o : Option (List ℕ)) → Goal o = λ o. elim o as Goal [
      | None ↦ λ e. refl
      | Some p ↦ λ e. is_declared-grown classes k.class p e
    ] in
    record {
      is_there = ap is_some (class_named-new classes k.class new);
      line = line ∙ sym (line_of-new classes k.class closed new there short);
      fields = fields ∙ sym (fields_of-new classes k.class closed new there short);
      parent_declared = by_cases k.class.parent there;
      within_limits = subst (λ fs. is_within_limits k.class.name fs ≡ true) (sym fields) (within_limits known k.class kept fine);
    }

-- with the class that joins all are kept
pub AreKept-joined : (known : List Known) (k : Known) → AreKept known → class_named (classes_of known) k.class.name ≡ None → class_fault (classes_of known) k.class ≡ None → k.line ≡ k.class.name ∷ line_above (classes_of known) k.class → k.fields ≡ inherited (classes_of known) k.class ++ k.class.fields → AreKept (known ++ k ∷ [])
AreKept-joined known k kept new fine line fields =
    let classes : List Class = classes_of known in
    let closed = has_parents known kept in
    let same : classes_of (known ++ k ∷ []) ≡ classes ++ k.class ∷ [] = map-append (λ d. d.class) known (k ∷ []) in
    subst (λ cs. All (IsKept cs) (known ++ k ∷ [])) (sym same)
    (All-push (IsKept (classes ++ k.class ∷ [])) known k
    (All-weaker (IsKept classes) (IsKept (classes ++ k.class ∷ [])) (λ d one. IsKept-grown classes k.class d closed one) known kept)
    (joined_is_kept known k kept new (acceptable classes k.class new fine) line fields))

-- the same, from what a search for the name says and from the parts that the line and the fields are made of
pub AreKept-added : (known grown : List Known) (classes : List Class) (k : Known) (name : List ℕ) (found : Option (Bor Known)) (above : List (List ℕ)) (before own : List (List ℕ × Kind)) → AreKept known → classes_of known ≡ classes → name ≡ k.class.name → MatchOption found (class_named classes name ≡ None) (λ old. IsKeptOf classes name old.now) → is_some found ≡ false → class_fault classes k.class ≡ None → above ≡ line_above classes k.class → k.line ≡ k.class.name ∷ above → before ≡ inherited classes k.class → own ≡ k.class.fields → k.fields ≡ before ++ own → grown ≡ known ++ k ∷ [] → AreKept grown
AreKept-added known grown classes k name found above before own kept view same_name searched absent fine same_above line same_before same_own fields same =
    let Goal : Option (Bor Known) → Type 0 =
    λ o. is_some o ≡ false → MatchOption o (class_named classes name ≡ None) (λ old. IsKeptOf classes name old.now) → class_named classes name ≡ None in
    let by_cases : (o : Option (Bor Known)) → Goal o = λ o. elim o as Goal [ None ↦ λ e m. m | Some old ↦ λ e m. cc ] in
    let none : class_named classes k.class.name ≡ None = ap (class_named classes) (sym same_name) ∙ by_cases found absent searched in
    let back : classes ≡ classes_of known = sym view in
    subst AreKept (sym same)
    (AreKept-joined known k kept
    (subst (λ cs. class_named cs k.class.name ≡ None) back none)
    (subst (λ cs. class_fault cs k.class ≡ None) back fine)
    (subst (λ cs. k.line ≡ k.class.name ∷ line_above cs k.class) back (line ∙ ap (λ xs. k.class.name ∷ xs) same_above))
    (subst (λ cs. k.fields ≡ inherited cs k.class ++ k.class.fields) back (fields ∙ ap (λ xs. xs ++ own) same_before ∙ ap (λ xs. inherited classes k.class ++ xs) same_own)))

-- Which classes stand below which, once a class joins.
use Rattle.std.proofs.Common.{◌≡◌, ℕ, ◌+◌, ◌<◌, zero, suc, Bool, true, false, cond, ◌||◌, List, [], ◌∷◌, ◌++◌, length, take, get_or, Option, Some, None, option_and_then, unwrap_or, bytes_eq, refl, sym, ◌∙◌, ap, subst}
use Rattle.std.specs.List.{list_any}
use Rattle.std.specs.Map.{update}
use Rattle.std.specs.Option.{option_map_or, option_or}
use Rattle.std.proofs.lemmas.List.{take_more, map-append}
use Rattle.std.proofs.lemmas.List.Folds.{find-append, list_any-append}
use Rattle.std.proofs.lemmas.Slice.Eq.{bytes_eq-Decides}
use Rattle.jsp_types.specs.declared.class.Class.{Class}
use Rattle.jsp_types.specs.declared.known.Known.{Known}
use Rattle.jsp_types.specs.Classes.{class_named, parent_of, line_up_to, line_of, is_sub, line_above, class_fault}
use Rattle.jsp_types.specs.Known.{classes_of, AreKept}
use Rattle.jsp_types.specs.Descendants.{is_in, IsNoted, Keeps, HasDescendants}
use Rattle.jsp_types.proofs.Growing.{HasParents, line_up_to-grown}
use Rattle.jsp_types.proofs.Joining.{acceptable, parent_declared, line_is_short, line_of-new, has_parents}

-- ---- tests

bytes_eq-swapped : (xs ys : List ℕ) → bytes_eq xs ys ≡ true → bytes_eq ys xs ≡ true
bytes_eq-swapped xs ys same = (bytes_eq-Decides ys xs).1 (sym ((bytes_eq-Decides xs ys).0 same))

or_first : (x y : Bool) → x ≡ true → (x || y) ≡ true
or_first true y e = refl
or_first false y e = cc

or_second : (x y : Bool) → y ≡ true → (x || y) ≡ true
or_second true y e = refl
or_second false y e = e

-- what follows from each of two tests follows from either
or_either : (x y : Bool) (Goal : Type 0) → (x || y) ≡ true → (x ≡ true → Goal) → (y ≡ true → Goal) → Goal
or_either true y Goal e one other = one refl
or_either false y Goal e one other = other e

-- the same of a list with one name more
pub any_more : (names : List (List ℕ)) (i : ℕ) (name d : List ℕ) (Goal : Type 0) → i < length names → name ≡ get_or names i name → list_any (bytes_eq d) (take (i + 1) names) ≡ true → (list_any (bytes_eq d) (take i names) ≡ true → Goal) → (bytes_eq d name ≡ true → Goal) → Goal
any_more names i name d Goal within is any one other =
    let taken : take (i + 1) names ≡ take i names ++ name ∷ [] = take_more names i name within ∙ ap (λ n. take i names ++ n ∷ []) (sym is) in
    let split : (list_any (bytes_eq d) (take i names) || list_any (bytes_eq d) (name ∷ [])) ≡ true =
    sym (list_any-append (bytes_eq d) (take i names) (name ∷ [])) ∙ sym (ap (list_any (bytes_eq d)) taken) ∙ any in
    or_either (list_any (bytes_eq d) (take i names)) (list_any (bytes_eq d) (name ∷ [])) Goal split one
    (λ e. or_either (bytes_eq d name) false Goal e other (λ f. cc))

-- a list that has the name as its last
pub any_last : (names : List (List ℕ)) (name : List ℕ) → list_any (bytes_eq name) (names ++ name ∷ []) ≡ true
any_last names name =
    list_any-append (bytes_eq name) names (name ∷ [])
    ∙ or_second (list_any (bytes_eq name) names) (list_any (bytes_eq name) (name ∷ [])) (or_first (bytes_eq name name) false ((bytes_eq-Decides name name).1 refl))

-- no name is in the list where there is none
pub none_is_in : {Goal : Type 0} (names : Option (List (List ℕ))) (name : List ℕ) → names ≡ None → is_in names name ≡ true → Goal
none_is_in None name e there = cc
none_is_in (Some xs) name e there = cc

-- a list has what it has, and none has nothing
is_in-listed : (names : Option (List (List ℕ))) (name : List ℕ) → is_in names name ≡ list_any (bytes_eq name) (unwrap_or names [])
is_in-listed None name = refl
is_in-listed (Some xs) name = refl

-- one list is written, and has what it had
pub Keeps-written : (old new : List ℕ → Option (List (List ℕ))) (at : List ℕ) (names : List (List ℕ)) → ((d : List ℕ) → new d ≡ update bytes_eq old at (Some names) d) → ((name : List ℕ) → is_in (old at) name ≡ true → list_any (bytes_eq name) names ≡ true) → Keeps old new
Keeps-written old new at names writes has d name there =
    let Goal : Bool → Type 0 = λ b. bytes_eq at d ≡ b → is_in (cond b (Some names) (old d)) name ≡ true in
    let by_cases : (b : Bool) → Goal b = λ b. elim b as Goal [
      | true ↦ λ e. has name (subst (λ x. is_in (old x) name ≡ true) (sym ((bytes_eq-Decides at d).0 e)) there)
      | false ↦ λ e. there
    ] in
    ap (λ o. is_in o name) (writes d) ∙ by_cases (bytes_eq at d) refl

-- ---- the lines of the other classes

class_named-other : (classes : List Class) (c : Class) (x : List ℕ) → bytes_eq c.name x ≡ false → class_named (classes ++ c ∷ []) x ≡ class_named classes x
class_named-other classes c x other =
    let none : (o : Option Class) → option_or o None ≡ o = λ o. elim o as (λ o. option_or o None ≡ o) [ None ↦ refl | Some d ↦ refl ] in
    find-append (λ d. bytes_eq d.name x) classes (c ∷ [])
    ∙ ap (λ b. option_or (class_named classes x) (cond b (Some c) None)) other
    ∙ none (class_named classes x)

pub line_up_to-other : (n : ℕ) (classes : List Class) (c : Class) (x : List ℕ) → HasParents classes → bytes_eq c.name x ≡ false → line_up_to n (classes ++ c ∷ []) x ≡ line_up_to n classes x
line_up_to-other zero classes c x closed other = refl
line_up_to-other (suc n) classes c x closed other =
    let Goal : Option (List ℕ) → Type 0 =
    λ o. parent_of classes x ≡ o → option_map_or (line_up_to n (classes ++ c ∷ [])) o [] ≡ option_map_or (line_up_to n classes) o [] in
    let by_cases : (o : Option (List ℕ)) → Goal o = λ o. elim o as Goal [
      | None ↦ λ e. refl
      | Some p ↦ λ e. line_up_to-grown n classes c p closed (closed x p e)
    ] in
    let same : parent_of (classes ++ c ∷ []) x ≡ parent_of classes x = ap (option_and_then (λ d. d.parent)) (class_named-other classes c x other) in
    ap (λ xs. x ∷ xs)
    (ap (λ o. option_map_or (line_up_to n (classes ++ c ∷ [])) o []) same ∙ by_cases (parent_of classes x) refl)

-- ---- joining

-- of no classes each has itself alone in its line
pub HasDescendants-none : (lists : List ℕ → Option (List (List ℕ))) → HasDescendants [] lists
HasDescendants-none lists x d sub =
    or_either (bytes_eq d x) false ((bytes_eq x d || is_in (lists d) x) ≡ true) sub (λ e. or_first (bytes_eq x d) (is_in (lists d) x) (bytes_eq-swapped d x e)) (λ f. cc)

-- more names in the lists leave it so
pub HasDescendants-more : (classes : List Class) (old new : List ℕ → Option (List (List ℕ))) → Keeps old new → HasDescendants classes old → HasDescendants classes new
HasDescendants-more classes old new keeps below x d sub =
    or_either (bytes_eq x d) (is_in (old d) x) ((bytes_eq x d || is_in (new d) x) ≡ true) (below x d sub)
    (or_first (bytes_eq x d) (is_in (new d) x))
    (λ e. or_second (bytes_eq x d) (is_in (new d) x) (keeps d x e))

HasDescendants-grown : (classes : List Class) (k : Known) (lists : List ℕ → Option (List (List ℕ))) → HasParents classes → line_of (classes ++ k.class ∷ []) k.class.name ≡ k.class.name ∷ line_above classes k.class → k.line ≡ k.class.name ∷ line_above classes k.class → IsNoted lists k.line → HasDescendants classes lists → HasDescendants (classes ++ k.class ∷ []) lists
HasDescendants-grown classes k lists closed line kept_line noted below x d sub =
    let name : List ℕ = k.class.name in
    let above : List (List ℕ) = line_above classes k.class in
    let Found : List ℕ → Type 0 = λ y. (bytes_eq y d || is_in (lists d) y) ≡ true in
    let own : list_any (bytes_eq d) (name ∷ above) ≡ true → Found name =
    λ e. or_either (bytes_eq d name) (list_any (bytes_eq d) above) (Found name) e
    (λ same. or_first (bytes_eq name d) (is_in (lists d) name) (bytes_eq-swapped d name same))
    (λ higher. or_second (bytes_eq name d) (is_in (lists d) name) (noted name above kept_line d higher)) in
    let Goal : Bool → Type 0 = λ b. bytes_eq name x ≡ b → Found x in
    let by_cases : (b : Bool) → Goal b = λ b. elim b as Goal [
      | true ↦ λ e.
          let same : name ≡ x = (bytes_eq-Decides name x).0 e in
          subst Found same
          (own (ap (list_any (bytes_eq d)) (sym line) ∙ ap (λ y. list_any (bytes_eq d) (line_of (classes ++ k.class ∷ []) y)) same ∙ sub))
      | false ↦ λ e.
          below x d (ap (list_any (bytes_eq d)) (sym (line_up_to-other 16 classes k.class x closed e)) ∙ sub)
    ] in
    by_cases (bytes_eq name x) refl

-- the same, of what is kept
pub HasDescendants-joined : (known grown : List Known) (k : Known) (old new : List ℕ → Option (List (List ℕ))) → AreKept known → class_named (classes_of known) k.class.name ≡ None → class_fault (classes_of known) k.class ≡ None → k.line ≡ k.class.name ∷ line_above (classes_of known) k.class → grown ≡ known ++ k ∷ [] → Keeps old new → IsNoted new k.line → HasDescendants (classes_of known) old → HasDescendants (classes_of grown) new
HasDescendants-joined known grown k old new kept named fine line grows keeps noted below =
    let classes : List Class = classes_of known in
    let closed = has_parents known kept in
    let one = acceptable classes k.class named fine in
    let there = parent_declared classes k.class.parent one.parent in
    let grown_line = line_of-new classes k.class closed named there (line_is_short classes k.class one.limits) in
    let same : classes_of grown ≡ classes ++ k.class ∷ [] = ap classes_of grows ∙ map-append (λ d. d.class) known (k ∷ []) in
    subst (λ cs. HasDescendants cs new) (sym same)
    (HasDescendants-grown classes k new closed grown_line line noted (HasDescendants-more classes old new keeps below))

-- the same, from the parts that the line is made of
pub HasDescendants-added : (known grown : List Known) (classes : List Class) (k : Known) (above : List (List ℕ)) (old new : List ℕ → Option (List (List ℕ))) → AreKept known → classes_of known ≡ classes → class_named classes k.class.name ≡ None → class_fault classes k.class ≡ None → above ≡ line_above classes k.class → k.line ≡ k.class.name ∷ above → grown ≡ known ++ k ∷ [] → Keeps old new → IsNoted new k.line → HasDescendants (classes_of known) old → HasDescendants (classes_of grown) new
HasDescendants-added known grown classes k above old new kept view named fine same_above line grows keeps noted below =
    let back : classes ≡ classes_of known = sym view in
    HasDescendants-joined known grown k old new kept
    (subst (λ cs. class_named cs k.class.name ≡ None) back named)
    (subst (λ cs. class_fault cs k.class ≡ None) back fine)
    (subst (λ cs. k.line ≡ k.class.name ∷ line_above cs k.class) back (line ∙ ap (λ xs. k.class.name ∷ xs) same_above))
    grows keeps noted below

-- what a look-up gives has each class below the name
pub named_below : (classes viewed : List Class) (lists : List ℕ → Option (List (List ℕ))) (c d : List ℕ) (names : List (List ℕ)) → classes ≡ viewed → HasDescendants classes lists → names ≡ unwrap_or (lists d) [] → is_sub viewed c d ≡ true → (bytes_eq c d || list_any (bytes_eq c) names) ≡ true
named_below classes viewed lists c d names view below same sub =
    ap (λ ns. bytes_eq c d || list_any (bytes_eq c) ns) same
    ∙ ap (λ b. bytes_eq c d || b) (sym (is_in-listed (lists d) c))
    ∙ below c d (ap (λ cs. is_sub cs c d) view ∙ sub)

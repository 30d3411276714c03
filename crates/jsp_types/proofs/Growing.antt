-- A class of a new name leaves the lines and the fields of the declared classes as they are.
use Rattle.std.proofs.Common.{◌≡◌, ℕ, zero, suc, ◌≤◌, true, List, [], ◌∷◌, ◌++◌, reverse, length, Option, Some, None, is_some, option_and_then, bytes_eq, flat_map, refl, sym, ◌∙◌, ap, arith}
use Rattle.std.specs.List.{list_all}
use Rattle.std.specs.Option.{option_map_or, option_or}
use Rattle.std.proofs.lemmas.Bool.{and_parts, and_from}
use Rattle.std.proofs.lemmas.Grind.{flat_map-append}
use Rattle.std.proofs.lemmas.List.{reverse-append}
use Rattle.std.proofs.lemmas.List.Folds.{find-append}
use Rattle.std.proofs.lemmas.Slice.Eq.{bytes_eq-Decides}
use Rattle.jsp_types.specs.declared.class.Class.{Class}
use Rattle.jsp_types.specs.Classes.{class_named, is_declared, parent_of, line_up_to, line_of, own_fields, fields_of}

-- each parent is declared
abbrev pub HasParents : List Class → Type 0
HasParents classes = (name p : List ℕ) → parent_of classes name ≡ Some p → is_declared classes p ≡ true

pub class_named-grown : (classes : List Class) (c : Class) (name : List ℕ) → is_declared classes name ≡ true → class_named (classes ++ c ∷ []) name ≡ class_named classes name
class_named-grown classes c name there =
    let stays : (o : Option Class) → is_some o ≡ true → option_or o (class_named (c ∷ []) name) ≡ o =
    λ o. elim o as (λ v. is_some v ≡ true → option_or v (class_named (c ∷ []) name) ≡ v) [ None ↦ λ e. cc | Some d ↦ λ e. refl ] in
    find-append (λ d. bytes_eq d.name name) classes (c ∷ []) ∙ stays (class_named classes name) there

pub class_named-new : (classes : List Class) (c : Class) → class_named classes c.name ≡ None → class_named (classes ++ c ∷ []) c.name ≡ Some c
class_named-new classes c new =
    let same : bytes_eq c.name c.name ≡ true = (bytes_eq-Decides c.name c.name).1 refl in
    find-append (λ d. bytes_eq d.name c.name) classes (c ∷ []) ∙ rw (new, same)

pub is_declared-grown : (classes : List Class) (c : Class) (name : List ℕ) → is_declared classes name ≡ true → is_declared (classes ++ c ∷ []) name ≡ true
is_declared-grown classes c name there = ap is_some (class_named-grown classes c name there) ∙ there

-- ---- lines

pub line_up_to-grown : (n : ℕ) (classes : List Class) (c : Class) (name : List ℕ) → HasParents classes → is_declared classes name ≡ true → line_up_to n (classes ++ c ∷ []) name ≡ line_up_to n classes name
line_up_to-grown zero classes c name closed there = refl
line_up_to-grown (suc n) classes c name closed there =
    let Goal : Option (List ℕ) → Type 0 =
    λ o. parent_of classes name ≡ o → option_map_or (line_up_to n (classes ++ c ∷ [])) o [] ≡ option_map_or (line_up_to n classes) o [] in
    let by_cases : (o : Option (List ℕ)) → Goal o = λ o. elim o as Goal [
      | None ↦ λ e. refl
      | Some p ↦ λ e. line_up_to-grown n classes c p closed (closed name p e)
    ] in
    let same : parent_of (classes ++ c ∷ []) name ≡ parent_of classes name = ap (option_and_then (λ d. d.parent)) (class_named-grown classes c name there) in
    ap (λ xs. name ∷ xs)
    (ap (λ o. option_map_or (line_up_to n (classes ++ c ∷ [])) o []) same ∙ by_cases (parent_of classes name) refl)

pub line_up_to-declared : (n : ℕ) (classes : List Class) (name : List ℕ) → HasParents classes → is_declared classes name ≡ true → list_all (is_declared classes) (line_up_to n classes name) ≡ true
line_up_to-declared zero classes name closed there = refl
line_up_to-declared (suc n) classes name closed there =
    let Goal : Option (List ℕ) → Type 0 =
    λ o. parent_of classes name ≡ o → list_all (is_declared classes) (option_map_or (line_up_to n classes) o []) ≡ true in
    let by_cases : (o : Option (List ℕ)) → Goal o = λ o. elim o as Goal [
      | None ↦ λ e. refl
      | Some p ↦ λ e. line_up_to-declared n classes p closed (closed name p e)
    ] in
    and_from _ _ there (by_cases (parent_of classes name) refl)

-- a line that ends early is the same where it may be one longer
pub line_up_to-short : (n : ℕ) (classes : List Class) (name : List ℕ) → length (line_up_to (suc n) classes name) ≤ n → line_up_to n classes name ≡ line_up_to (suc n) classes name
line_up_to-short zero classes name short = absurd (omega (arith, short))
line_up_to-short (suc n) classes name short =
    let Goal : Option (List ℕ) → Type 0 =
    λ o. length (option_map_or (line_up_to (suc n) classes) o []) ≤ n → option_map_or (line_up_to n classes) o [] ≡ option_map_or (line_up_to (suc n) classes) o [] in
    let by_cases : (o : Option (List ℕ)) → Goal o = λ o. elim o as Goal [
      | None ↦ λ e. refl
      | Some p ↦ λ e. line_up_to-short n classes p e
    ] in
    ap (λ xs. name ∷ xs) (by_cases (parent_of classes name) (omega (arith, short)))

-- ---- fields

pub flat_map-reverse : {X A : Type 0} (f : X → List A) (x : X) (xs : List X) → flat_map f (reverse (x ∷ xs)) ≡ flat_map f (reverse xs) ++ flat_map f (x ∷ [])
flat_map-reverse f x xs = ap (flat_map f) (reverse-append (x ∷ []) xs) ∙ flat_map-append f (reverse xs) (x ∷ [])

pub own_fields-grown : (classes : List Class) (c : Class) (line : List (List ℕ)) → list_all (is_declared classes) line ≡ true → flat_map (own_fields (classes ++ c ∷ [])) (reverse line) ≡ flat_map (own_fields classes) (reverse line)
own_fields-grown classes c [] there = refl
own_fields-grown classes c (name ∷ line) there =
    let both = and_parts (is_declared classes name) (list_all (is_declared classes) line) there in
    let here : own_fields (classes ++ c ∷ []) name ≡ own_fields classes name = ap (λ o. option_map_or (λ d. d.fields) o []) (class_named-grown classes c name both.0) in
    flat_map-reverse (own_fields (classes ++ c ∷ [])) name line
    ∙ ap (λ xs. xs ++ flat_map (own_fields (classes ++ c ∷ [])) (name ∷ [])) (own_fields-grown classes c line both.1)
    ∙ ap (λ fs. flat_map (own_fields classes) (reverse line) ++ (fs ++ [])) here
    ∙ sym (flat_map-reverse (own_fields classes) name line)

pub fields_of-grown : (classes : List Class) (c : Class) (name : List ℕ) → HasParents classes → is_declared classes name ≡ true → fields_of (classes ++ c ∷ []) name ≡ fields_of classes name
fields_of-grown classes c name closed there =
    ap (λ line. flat_map (own_fields (classes ++ c ∷ [])) (reverse line)) (line_up_to-grown 16 classes c name closed there)
    ∙ own_fields-grown classes c (line_of classes name) (line_up_to-declared 16 classes name closed there)

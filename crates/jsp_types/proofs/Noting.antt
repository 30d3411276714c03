-- The classes are found by the places that are noted for them.
use Rattle.std.proofs.Common.{◌≡◌, ℕ, zero, suc, Bool, true, false, cond, List, [], ◌∷◌, ◌++◌, length, Option, Some, None, option_map, option_and_then, bytes_eq, is_some, MatchOption, refl, sym, ◌∙◌, ap, subst, arith}
use Rattle.std.specs.List.{slice_get}
use Rattle.std.specs.Option.{option_or}
use Rattle.std.proofs.lemmas.Option.{slice_get_past}
use Rattle.std.proofs.lemmas.List.Folds.{find-append}
use Rattle.std.proofs.lemmas.Slice.Eq.{bytes_eq-Decides}
use denote.Ref.{Bor}
use Rattle.jsp_types.specs.declared.class.Class.{Class}
use Rattle.jsp_types.specs.declared.known.Known.{Known}
use Rattle.jsp_types.specs.Classes.{class_named}
use Rattle.jsp_types.specs.Known.{classes_of, IsKeptOf}
use Rattle.jsp_types.specs.NameMaps.{with_value}
use Rattle.jsp_types.specs.Places.{if_named, FindsAll}
use Rattle.jsp_types.proofs.Finding.{known_named, class_named-classes_of}

-- where no class has the name, none that is kept has it
pub known_named-none : (known : List Known) (name : List ℕ) → class_named (classes_of known) name ≡ None → known_named known name ≡ None
known_named-none known name none =
    let by_cases : (o : Option Known) → option_map (λ k. k.class) o ≡ None → o ≡ None =
    λ o. elim o as (λ o. option_map (λ k. k.class) o ≡ None → o ≡ None) [ None ↦ λ e. refl | Some k ↦ λ e. cc ] in
    by_cases (known_named known name) (sym (class_named-classes_of known name) ∙ none)

-- places that say the same find the same
pub FindsAll-same : (places others : List ℕ → Option ℕ) (known : List Known) → ((q : List ℕ) → others q ≡ places q) → FindsAll places known → FindsAll others known
FindsAll-same places others known same all name =
    ap (λ o. option_and_then (λ i. option_and_then (if_named name) (slice_get known i)) o) (same name) ∙ all name

-- what is noted past the end finds nothing
pub FindsAll-noted : (places : List ℕ → Option ℕ) (known : List Known) (name : List ℕ) → known_named known name ≡ None → FindsAll places known → FindsAll (with_value places name (length known)) known
FindsAll-noted places known name new all q =
    let Goal : Bool → Type 0 =
    λ b. bytes_eq name q ≡ b → option_and_then (λ i. option_and_then (if_named q) (slice_get known i)) (cond b (Some (length known)) (places q)) ≡ known_named known q in
    let by_cases : (b : Bool) → Goal b = λ b. elim b as Goal [
      | true ↦ λ same.
          ap (option_and_then (if_named q)) (slice_get_past known (length known) (omega arith))
          ∙ sym (ap (known_named known) (sym ((bytes_eq-Decides name q).0 same)) ∙ new)
      | false ↦ λ other. all q
    ] in
    by_cases (bytes_eq name q) refl

-- a class of another name at the end is not what a look-up finds
other_at_end : (known : List Known) (k : Known) (q : List ℕ) (i : ℕ) → bytes_eq k.class.name q ≡ false → option_and_then (if_named q) (slice_get (known ++ k ∷ []) i) ≡ option_and_then (if_named q) (slice_get known i)
other_at_end [] k q zero other = rw other
other_at_end [] k q (suc i) other = refl
other_at_end (d ∷ known) k q zero other = refl
other_at_end (d ∷ known) k q (suc i) other = other_at_end known k q i other

last_of : (known : List Known) (k : Known) → slice_get (known ++ k ∷ []) (length known) ≡ Some k
last_of [] k = refl
last_of (d ∷ known) k = last_of known k

named_at_end : (known : List Known) (k : Known) (q : List ℕ) (b : Bool) → bytes_eq k.class.name q ≡ b → known_named (known ++ k ∷ []) q ≡ option_or (known_named known q) (cond b (Some k) None)
named_at_end known k q b is =
    find-append (λ d. bytes_eq d.class.name q) known (k ∷ []) ∙ ap (λ t. option_or (known_named known q) (cond t (Some k) None)) is

option_or-none : {X : Type 0} (o : Option X) → option_or o None ≡ o
option_or-none None = refl
option_or-none (Some x) = refl

-- a class of a new name is found at the place past the end, once it stands there
pub FindsAll-pushed : (places : List ℕ → Option ℕ) (known : List Known) (k : Known) → known_named known k.class.name ≡ None → FindsAll places known → FindsAll (with_value places k.class.name (length known)) (known ++ k ∷ [])
FindsAll-pushed places known k new all q =
    let grown : List Known = known ++ k ∷ [] in
    let Goal : Bool → Type 0 =
    λ b. bytes_eq k.class.name q ≡ b → option_and_then (λ i. option_and_then (if_named q) (slice_get grown i)) (cond b (Some (length known)) (places q)) ≡ known_named grown q in
    let others : (o : Option ℕ) → bytes_eq k.class.name q ≡ false → option_and_then (λ i. option_and_then (if_named q) (slice_get grown i)) o ≡ option_and_then (λ i. option_and_then (if_named q) (slice_get known i)) o =
    λ o other. elim o as (λ o. option_and_then (λ i. option_and_then (if_named q) (slice_get grown i)) o ≡ option_and_then (λ i. option_and_then (if_named q) (slice_get known i)) o)
    [ None ↦ refl | Some i ↦ other_at_end known k q i other ] in
    let by_cases : (b : Bool) → Goal b = λ b. elim b as Goal [
      | true ↦ λ same.
          let none : known_named known q ≡ None = ap (known_named known) (sym ((bytes_eq-Decides k.class.name q).0 same)) ∙ new in
          ap (option_and_then (if_named q)) (last_of known k)
          ∙ ap (λ t. cond t (Some k) None) same
          ∙ sym (named_at_end known k q true same ∙ ap (λ o. option_or o (Some k)) none)
      | false ↦ λ other.
          others (places q) other ∙ all q ∙ sym (named_at_end known k q false other ∙ option_or-none (known_named known q))
    ] in
    by_cases (bytes_eq k.class.name q) refl

-- ---- by what the calls say

noted_same : (places others : List ℕ → Option ℕ) (known : List Known) (k : Known) (name : List ℕ) (place : ℕ) → ((q : List ℕ) → others q ≡ with_value places name place q) → name ≡ k.class.name → place ≡ length known → (q : List ℕ) → others q ≡ with_value places k.class.name (length known) q
noted_same places others known k name place same same_name last q =
    same q ∙ ap (λ n. with_value places n place q) same_name ∙ ap (λ i. with_value places k.class.name i q) last

-- the place of a class of a new name is noted, and the class stands there
pub FindsAll-kept : (places others : List ℕ → Option ℕ) (known grown : List Known) (k : Known) (name : List ℕ) (place : ℕ) → known_named known k.class.name ≡ None → FindsAll places known → ((q : List ℕ) → others q ≡ with_value places name place q) → name ≡ k.class.name → place ≡ length known → grown ≡ known ++ k ∷ [] → FindsAll others grown
FindsAll-kept places others known grown k name place new all same same_name last grows =
    subst (FindsAll others) (sym grows)
    (FindsAll-same (with_value places k.class.name (length known)) others (known ++ k ∷ []) (noted_same places others known k name place same same_name last) (FindsAll-pushed places known k new all))

-- it is noted, and the class stands nowhere
pub FindsAll-unkept : (places others : List ℕ → Option ℕ) (known after : List Known) (k : Known) (name : List ℕ) (place : ℕ) → known_named known k.class.name ≡ None → FindsAll places known → ((q : List ℕ) → others q ≡ with_value places name place q) → name ≡ k.class.name → place ≡ length known → after ≡ known → FindsAll others after
FindsAll-unkept places others known after k name place new all same same_name last stays =
    subst (FindsAll others) (sym stays)
    (FindsAll-same (with_value places k.class.name (length known)) others known (noted_same places others known k name place same same_name last) (FindsAll-noted places known k.class.name new all))

-- where a search finds no class of the name, none is declared
pub unknown_class : (classes : List Class) (name : List ℕ) (found : Option (Bor Known)) → MatchOption found (class_named classes name ≡ None) (λ old. IsKeptOf classes name old.now) → is_some found ≡ false → class_named classes name ≡ None
unknown_class classes name None searched absent = searched
unknown_class classes name (Some old) searched absent = cc

-- and none that is kept has it
pub unknown_name : (known : List Known) (classes : List Class) (name same : List ℕ) (found : Option (Bor Known)) → classes_of known ≡ classes → MatchOption found (class_named classes name ≡ None) (λ old. IsKeptOf classes name old.now) → is_some found ≡ false → same ≡ name → known_named known same ≡ None
unknown_name known classes name same found view searched absent is_same =
    ap (known_named known) is_same
    ∙ known_named-none known name (ap (λ cs. class_named cs name) view ∙ unknown_class classes name found searched absent)

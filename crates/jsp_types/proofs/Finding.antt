-- What a search among the kept classes says of the declared ones.
use Rattle.std.proofs.Common.{◌≡◌, ℕ, Bool, true, false, cond, List, [], ◌∷◌, Option, Some, None, option_map, find, bytes_eq, IsTrue, option_copied, MatchOption, refl, sym, ◌∙◌, ap, subst}
use Rattle.std.specs.List.{All}
use Rattle.std.proofs.lemmas.List.Elements.{All-head, All-tail}
use Rattle.std.proofs.lemmas.Slice.Eq.{bytes_eq-Decides}
use denote.Ref.{Bor}
use Rattle.jsp_types.specs.declared.class.Class.{Class}
use Rattle.jsp_types.specs.declared.known.Known.{Known}
use Rattle.jsp_types.specs.Classes.{class_named, line_of, fields_of, is_within_limits}
use Rattle.jsp_types.specs.Known.{classes_of, IsKept, AreKept, IsKeptOf}

abbrev pub known_named : List Known → List ℕ → Option Known
known_named known name = find (λ k. bytes_eq k.class.name name) known

pub class_named-classes_of : (known : List Known) (name : List ℕ) → class_named (classes_of known) name ≡ option_map (λ k. k.class) (known_named known name)
class_named-classes_of [] name = refl
class_named-classes_of (k ∷ known) name =
    elim (bytes_eq k.class.name name) as (λ b. cond b (Some k.class) (class_named (classes_of known) name) ≡ option_map (λ k. k.class) (cond b (Some k) (known_named known name)))
    [ true ↦ refl | false ↦ class_named-classes_of known name ]

-- what a search finds passes, and is one of those searched
pub find_passes : {X : Type 0} (p : X → Bool) (P : X → Type 0) (xs : List X) (x : X) → All P xs → find p xs ≡ Some x → (p x ≡ true) × P x
find_passes p P [] x all found = cc
find_passes {X} p P (y ∷ ys) x all found =
    let Goal : Bool → Type 0 = λ b. p y ≡ b → cond b (Some y) (find p ys) ≡ Some x → (p x ≡ true) × P x in
    let by_cases : (b : Bool) → Goal b = λ b. elim b as Goal [
      | true ↦ λ passes same. let e : y ≡ x = cc in (subst (λ (z : X). p z ≡ true) e passes, subst P e (All-head P y ys all))
      | false ↦ λ fails same. find_passes p P ys x (All-tail P y ys all) same
    ] in
    by_cases (p y) refl found

pub IsKeptOf-known_named : (known : List Known) (name : List ℕ) (k : Known) → AreKept known → known_named known name ≡ Some k → IsKeptOf (classes_of known) name k
IsKeptOf-known_named known name k kept found =
    let both = find_passes (λ k. bytes_eq k.class.name name) (IsKept (classes_of known)) known k kept found in
    let same : k.class.name ≡ name = (bytes_eq-Decides _ _).0 both.0 in
    record {
      named = class_named-classes_of known name ∙ ap (option_map (λ k. k.class)) found;
      line = both.1.line ∙ ap (line_of (classes_of known)) same;
      fields = both.1.fields ∙ ap (fields_of (classes_of known)) same;
      within_limits = subst (λ n. IsTrue (is_within_limits n k.fields)) same both.1.within_limits;
    }

pub known_is_kept : (known : List Known) (classes : List Class) (name : List ℕ) (found : Option (Bor Known)) → AreKept known → classes_of known ≡ classes → option_copied found ≡ known_named known name → MatchOption found (class_named classes name ≡ None) (λ k. IsKeptOf classes name k.now)
known_is_kept known classes name None kept view same =
    rw (← view) (class_named-classes_of known name ∙ ap (option_map (λ k. k.class)) (sym same))
known_is_kept known classes name (Some k) kept view same =
    rw (← view) (IsKeptOf-known_named known name k.now kept (sym same))

-- what is kept of the class of a name is that of the class so named
pub kept_name : (classes : List Class) (name : List ℕ) (known : Known) → IsKeptOf classes name known → known.class.name ≡ name
kept_name classes name known h = go classes h.named
  where
    go : (cs : List Class) → class_named cs name ≡ Some known.class → known.class.name ≡ name
    go [] found = cc
    go (c ∷ cs) found =
        let Goal : Bool → Type 0 = λ b. bytes_eq c.name name ≡ b → cond b (Some c) (class_named cs name) ≡ Some known.class → known.class.name ≡ name in
        let by_cases : (b : Bool) → Goal b = λ b. elim b as Goal [
          | true ↦ λ same found. let e : c ≡ known.class = cc in ap (λ (k : Class). k.name) (sym e) ∙ (bytes_eq-Decides _ _).0 same
          | false ↦ λ other found. go cs found
        ] in
        by_cases (bytes_eq c.name name) refl found

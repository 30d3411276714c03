-- Rows that are like a template, class by class, and those that are asked for, template by template.
use Rattle.std.proofs.Common.{◌≡◌, ℕ, ◌+◌, ◌<◌, Bool, true, false, ◌&&◌, ◌||◌, eqb, List, [], ◌∷◌, ◌++◌, length, take, get_or, None, refl, ap, sym, ◌∙◌, subst, arith, inl, inr, ◌⊎◌}
use Rattle.std.specs.Prelude.{bytes_eq, ◌==◌}
use Rattle.std.specs.List.{list_any}
use Rattle.std.specs.HashMap.{HashMap}
use Rattle.std.proofs.lemmas.List.{take_more}
use Rattle.std.proofs.lemmas.Slice.Eq.{bytes_eq-Decides}
use Rattle.jsp_types.specs.declared.class.Class.{Class}
use Rattle.jsp_types.specs.declared.entry.Entry.{Entry}
use Rattle.jsp_types.specs.declared.entry.Template.{Template}
use Rattle.jsp_types.specs.declared.entry.Template.TheVariants.{Like}
use Rattle.jsp_types.specs.Classes.{is_sub}
use Rattle.jsp_types.specs.Matching.{matches}
use Rattle.jsp_model.specs.declared.state.Row.{Row}
use Rattle.jsp_table.specs.Numbers.{contains}
use Rattle.jsp_table.specs.Finding.{AreNamed}
use Rattle.jsp_table.proofs.Finding.{each}
use Rattle.jsp_table.proofs.Rising.{or_cases}
use Rattle.jsp_keys.specs.Keys.{class_key}
use Rattle.jsp_index.specs.Keys.{row_keys}
use Rattle.jsp_index.specs.Seen.{seen_in, IsSeen}
use Rattle.jsp_index.specs.Finding.{number, is_asked, is_like, is_like_of, IsLeast}
use Rattle.jsp_index.proofs.Covering.{and_both, eqb_eq, class_has}

pub and_true : (a b : Bool) → a ≡ true → b ≡ true → (a && b) ≡ true
and_true a b h k = rw (h, k) refl

-- ---- class by class

any_end : {X : Type 0} (p : X → Bool) (xs : List X) (x : X) → list_any p (xs ++ x ∷ []) ≡ true → (list_any p xs ≡ true) ⊎ (p x ≡ true)
any_end p [] x h = elim (or_cases (p x) false h) [ inl e ↦ inr e | inr e ↦ absurd (cc) ]
any_end p (y ∷ xs) x h = elim (or_cases (p y) (list_any p (xs ++ x ∷ [])) h) [
  | inl e ↦ inl (rw e refl)
  | inr e ↦ elim (any_end p xs x e) [ inl f ↦ inl (or_right (p y) (list_any p xs) f) | inr f ↦ inr f ]
] where
  or_right : (a b : Bool) → b ≡ true → (a || b) ≡ true
  or_right true b h = refl
  or_right false b h = h

pub any_more : {X : Type 0} (p : X → Bool) (xs : List X) (i : ℕ) (x : X) → i < length xs → x ≡ get_or xs i x → list_any p (take (i + 1) xs) ≡ true → (list_any p (take i xs) ≡ true) ⊎ (p x ≡ true)
any_more p xs i x lt is h = any_end p (take i xs) x (ap (list_any p) (sym (take_more xs i x lt ∙ ap (λ w. take i xs ++ w ∷ []) (sym is))) ∙ h)

-- like the template, and of the class
abbrev pub is_like_and : List Class → ℕ → Entry → List ℕ → Row → Bool
is_like_and classes space like class r = is_like classes space (Like like) r && bytes_eq class r.entry.class

module _ (classes : List Class) (space : ℕ) (like : Entry) (class : List ℕ) where
  pub class_kept : (seed : ℕ) (r : Row) → is_like_and classes space like class r ≡ true → contains (row_keys seed r) (class_key seed space class) ≡ true
  class_kept seed r k =
      let two = and_both (is_like classes space (Like like) r) (bytes_eq class r.entry.class) k in
      let at : r.space ≡ space = eqb_eq r.space space (and_both (eqb r.space space) (matches classes (Like like) r.entry) two.0).0 in
      class_has seed space class r at ((bytes_eq-Decides class r.entry.class).0 two.1)

  pub class_apart : is_sub classes class like.class ≡ false → (r : Row) → is_like_and classes space like class r ≡ false
  class_apart none r = at (is_like_and classes space like class r) refl where
    at : (b : Bool) → is_like_and classes space like class r ≡ b → b ≡ false
    at false k = refl
    at true k =
        let two = and_both (is_like classes space (Like like) r) (bytes_eq class r.entry.class) k in
        let matched = (and_both (eqb r.space space) (matches classes (Like like) r.entry) two.0).1 in
        let sub = (and_both (is_sub classes r.entry.class like.class) _ matched).0 in
        absurd (cc (sub, none, ap (λ w. is_sub classes w like.class) ((bytes_eq-Decides class r.entry.class).0 two.1)))

  pub class_more : (seen : List (List ℕ)) (i : ℕ) → i < length seen → class ≡ get_or seen i class → (r : Row) → is_like_of classes space like (take (i + 1) seen) r ≡ true
      → (is_like_of classes space like (take i seen) r ≡ true) ⊎ (is_like_and classes space like class r ≡ true)
  class_more seen i lt is r h =
      let two = and_both (is_like classes space (Like like) r) (list_any (λ c. bytes_eq c r.entry.class) (take (i + 1) seen)) h in
      elim (any_more (λ c. bytes_eq c r.entry.class) seen i class lt is two.1) [
        | inl e ↦ inl (and_true (is_like classes space (Like like) r) (list_any (λ c. bytes_eq c r.entry.class) (take i seen)) two.0 e)
        | inr e ↦ inr (and_true (is_like classes space (Like like) r) (bytes_eq class r.entry.class) two.0 e)
      ]

-- where each row of the space has one of the classes
pub of_seen : {S : Type 0} (seen : HashMap ℕ (List (List ℕ)) S) (classes : List Class) (space : ℕ) (like : Entry) (r : Row) → IsSeen seen r.space r.entry.class → is_like classes space (Like like) r ≡ true → is_like_of classes space like (seen_in seen space) r ≡ true
of_seen seen classes space like r is h =
    let at : r.space ≡ space = eqb_eq r.space space (and_both (eqb r.space space) (matches classes (Like like) r.entry) h).0 in
    and_true (is_like classes space (Like like) r) (list_any (λ c. bytes_eq c r.entry.class) (seen_in seen space)) h (subst (λ (s : ℕ). IsSeen seen s r.entry.class) at is)

-- where each class that has the template's in its line is that one, or below it
pub of_below : (classes : List Class) (space : ℕ) (like : Entry) (below : List (List ℕ)) → ((c : List ℕ) → is_sub classes c like.class ≡ true → (bytes_eq c like.class || list_any (bytes_eq c) below) ≡ true) → (r : Row) → is_like classes space (Like like) r ≡ true
    → (is_like_and classes space like like.class r ≡ true) ⊎ (is_like_of classes space like below r ≡ true)
of_below classes space like below covers r h =
    let matched = (and_both (eqb r.space space) (matches classes (Like like) r.entry) h).1 in
    let sub = (and_both (is_sub classes r.entry.class like.class) _ matched).0 in
    elim (or_cases (bytes_eq r.entry.class like.class) (list_any (bytes_eq r.entry.class) below) (covers r.entry.class sub)) [
      | inl e ↦ inl (and_true (is_like classes space (Like like) r) (bytes_eq like.class r.entry.class) h (bytes_turned r.entry.class like.class e))
      | inr e ↦ inr (and_true (is_like classes space (Like like) r) (list_any (λ c. bytes_eq c r.entry.class) below) h (any_turned r.entry.class below e))
    ] where
      bytes_turned : (a b : List ℕ) → bytes_eq a b ≡ true → bytes_eq b a ≡ true
      bytes_turned a b e = (bytes_eq-Decides b a).1 (sym ((bytes_eq-Decides a b).0 e))

      or_later : (a b : Bool) → b ≡ true → (a || b) ≡ true
      or_later true b h = refl
      or_later false b h = h

      any_turned : (a : List ℕ) (names : List (List ℕ)) → list_any (bytes_eq a) names ≡ true → list_any (λ c. bytes_eq c a) names ≡ true
      any_turned a [] e = absurd (cc)
      any_turned a (b ∷ names) e = elim (or_cases (bytes_eq a b) (list_any (bytes_eq a) names) e) [
        | inl f ↦ rw (bytes_turned a b f) refl
        | inr f ↦ or_later (bytes_eq b a) (list_any (λ c. bytes_eq c a) names) (any_turned a names f)
      ]

-- ---- template by template

pub asked_more : (classes : List Class) (space : ℕ) (templates : List Template) (i : ℕ) (template : Template) → i < length templates → template ≡ get_or templates i template → (r : Row) → is_asked classes space (take (i + 1) templates) r ≡ true
    → (is_asked classes space (take i templates) r ≡ true) ⊎ (is_like classes space template r ≡ true)
asked_more classes space templates i template lt is r h =
    let two = and_both (eqb r.space space) (list_any (λ t. matches classes t r.entry) (take (i + 1) templates)) h in
    elim (any_more (λ t. matches classes t r.entry) templates i template lt is two.1) [
      | inl e ↦ inl (and_true (eqb r.space space) (list_any (λ t. matches classes t r.entry) (take i templates)) two.0 e)
      | inr e ↦ inr (and_true (eqb r.space space) (matches classes template r.entry) two.0 e)
    ]

-- ---- of a kind of which no row is named

pub least_unnamed : (p kind : Row → Bool) (ns : List ℕ) (rows : List Row) → (length ns == 0) ≡ true → AreNamed number kind ns rows → IsLeast p kind rows None
least_unnamed p kind ns rows empty named = record {
  one = tt;
  least = each (λ r. kind r ≡ true → contains ns r.number ≡ true) (λ r. p r ≡ true → kind r ≡ true → ⊥) rows named (λ r f h k. nothing ns r.number empty (f k));
} where
  nothing : (ns : List ℕ) (n : ℕ) → (length ns == 0) ≡ true → contains ns n ≡ true → ⊥
  nothing [] n e h = absurd (cc)
  nothing (m ∷ ns) n e h = absurd (omega (arith, eqb_eq (length (m ∷ ns)) 0 e))

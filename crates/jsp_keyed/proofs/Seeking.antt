-- An entry seeks the templates that match it.
use Rattle.std.proofs.Common.{◌≡◌, ℕ, suc, ◌≤◌, Bool, true, false, ◌||◌, List, [], ◌∷◌, ◌++◌, length, map, refl, ap, sym, ◌∙◌, subst, arith, inl, inr}
use Rattle.std.specs.Prelude.{filter, nat_le}
use Rattle.std.specs.List.{AllByRecursion, list_any, list_all}
use Rattle.jsp_types.specs.declared.value.Value.{Value}
use Rattle.jsp_types.specs.declared.class.Class.{Class}
use Rattle.jsp_types.specs.declared.entry.Entry.{Entry}
use Rattle.jsp_types.specs.declared.entry.Template.{Template}
use Rattle.jsp_types.specs.declared.entry.Template.TheVariants.{Any, Like}
use Rattle.jsp_types.specs.Classes.{is_sub, line_of}
use Rattle.jsp_types.specs.Matching.{is_null, value_eq, value_at, matches}
use Rattle.jsp_table.specs.Numbers.{contains}
use Rattle.jsp_table.proofs.Rising.{or_cases}
use Rattle.jsp_table.proofs.Finding.{each}
use Rattle.jsp_keys.specs.Keys.{any_key, class_key, field_key, several_key, count_key}
use Rattle.jsp_keys.specs.Templates.{values_asked, like_keys, template_keys, keys_of_all, line_keys, value_keys, entry_keys, several_keys, seeks_several, seeks}
use Rattle.jsp_keyed.proofs.Walking.{and_both}
use Rattle.jsp_keyed.proofs.Sought.{or_second, has_first, has_later, has_left, has_right, same_value, value_stands, line_stands, sought_too}
use Rattle.jsp_keyed.proofs.Enough.{up_to, at_most, any_where, more_pass}
use Rattle.jsp_keys.proofs.Values.{AreApart, IsIn, asked_apart, asked_hold, few_asked, each_has}

-- ---- what has more keys

several_among : (seed space : ℕ) (fields : List (List ℕ × Value)) (keys more : List ℕ) → ((k : ℕ) → contains keys k ≡ true → contains more k ≡ true) → (count : ℕ) → seeks_several seed space fields keys count ≡ true → seeks_several seed space fields more count ≡ true
several_among seed space fields keys more among count h =
    let sought = several_keys seed count space fields in
    let two = and_both (contains keys (count_key seed count space)) (nat_le count (length (filter (contains keys) sought))) h in
    rw (among (count_key seed count space) two.0) (at_most count (length (filter (contains more) sought)) (over (up_to count (length (filter (contains keys) sought)) two.1) (more_pass (contains keys) (contains more) sought among))) where
      over : {a b c : ℕ} → a ≤ b → b ≤ c → a ≤ c
      over f g = omega arith

pub seeks_among : (seed : ℕ) (classes : List Class) (space : ℕ) (e : Entry) (keys more : List ℕ) → ((k : ℕ) → contains keys k ≡ true → contains more k ≡ true) → seeks seed classes space e keys ≡ true → seeks seed classes space e more ≡ true
seeks_among seed classes space e keys more among h =
    let sought = entry_keys seed classes space e in
    let several = 2 ∷ 3 ∷ 4 ∷ [] in
    elim (or_cases (list_any (contains keys) sought) (list_any (seeks_several seed space e.fields keys) several) h) [
      | inl f ↦ rw (any_where (contains keys) (contains more) sought among f) refl
      | inr f ↦ or_second (list_any (contains more) sought) (list_any (seeks_several seed space e.fields more) several) (any_where (seeks_several seed space e.fields keys) (seeks_several seed space e.fields more) several (several_among seed space e.fields keys more among) f)
    ]

-- ---- the keys of a template

-- one of the keys that it has is sought
one_is : (seed : ℕ) (classes : List Class) (space : ℕ) (e : Entry) (k : ℕ) → contains (entry_keys seed classes space e) k ≡ true → seeks seed classes space e (k ∷ []) ≡ true
one_is seed classes space e k there = rw (sought_too (entry_keys seed classes space e) (k ∷ []) k there (has_first [] k k refl)) refl

keys_hold : (key : List ℕ × Value → ℕ) (values : List (List ℕ × Value)) → AllByRecursion (λ v. contains (map key values) (key v) ≡ true) values
keys_hold key [] = tt
keys_hold key (v ∷ values) = (has_first (map key values) (key v) (key v) refl, each (λ w. contains (map key values) (key w) ≡ true) (λ w. contains (key v ∷ map key values) (key w) ≡ true) values (keys_hold key values) (λ w h. has_later (map key values) (key w) (key v) h))

-- how many they are is among what is looked for
is_one_of : (p : ℕ → Bool) (values : List (List ℕ × Value)) → length values ≤ 2 → p (suc (suc (length values))) ≡ true → list_any p (2 ∷ 3 ∷ 4 ∷ []) ≡ true
is_one_of p [] few h = rw h refl
is_one_of p (v ∷ []) few h = or_second (p 2) (p 3 || (p 4 || false)) (rw h refl)
is_one_of p (v ∷ w ∷ []) few h = or_second (p 2) (p 3 || (p 4 || false)) (or_second (p 3) (p 4 || false) (rw h refl))
is_one_of p (v ∷ w ∷ x ∷ values) few h = absurd (omega (arith, few))

like_seeks : (seed : ℕ) (classes : List Class) (space : ℕ) (e : Entry) (class : List ℕ) (values : List (List ℕ × Value)) → is_sub classes e.class class ≡ true → length values ≤ 4 → AreApart values → AllByRecursion (IsIn e.fields) values
    → seeks seed classes space e (like_keys seed space class values) ≡ true
like_seeks seed classes space e class [] sub few apart is =
    let values = value_keys seed space e.fields in
    let line = line_keys seed classes space e.class in
    let k = class_key seed space class in
    one_is seed classes space e k (has_later (values ++ line) k (any_key seed space) (has_right values line k (line_stands seed space (line_of classes e.class) class sub)))
like_seeks seed classes space e class (v ∷ []) sub few apart is =
    let values = value_keys seed space e.fields in
    let line = line_keys seed classes space e.class in
    let k = field_key seed space v.0 v.1 in
    let stands : contains values k ≡ true = subst (λ w. contains values (field_key seed space v.0 w) ≡ true) (sym is.0.0) (value_stands seed space e.fields v.0 (ap is_null (sym is.0.0) ∙ is.0.1)) in
    one_is seed classes space e k (has_later (values ++ line) k (any_key seed space) (has_left values line k stands))
like_seeks seed classes space e class (v ∷ w ∷ values) sub few apart is =
    let all = v ∷ w ∷ values in
    let count = length all in
    let key = λ (f : List ℕ × Value). several_key seed count space f.0 f.1 in
    let keys = count_key seed count space ∷ map key all in
    let has : AllByRecursion (λ f. contains keys (key f) ≡ true) all = each (λ f. contains (map key all) (key f) ≡ true) (λ f. contains keys (key f) ≡ true) all (keys_hold key all) (λ f h. has_later (map key all) (key f) (count_key seed count space) h) in
    let enough = each_has (several_key seed count space) keys e.fields all apart is has in
    let this : seeks_several seed space e.fields keys count ≡ true = rw (has_first (map key all) (count_key seed count space) (count_key seed count space) refl) (at_most count (length (filter (contains keys) (several_keys seed count space e.fields))) enough) in
    or_second (list_any (contains keys) (entry_keys seed classes space e)) (list_any (seeks_several seed space e.fields keys) (2 ∷ 3 ∷ 4 ∷ [])) (is_one_of (seeks_several seed space e.fields keys) values (omega (arith, few)) this)

values_in : (fields ts : List (List ℕ × Value)) → list_all (λ f. is_null f.1 || value_eq f.1 (value_at fields f.0)) ts ≡ true → AllByRecursion (λ f. is_null f.1 ≡ false → IsIn fields f) ts
values_in fields [] h = tt
values_in fields (t ∷ ts) h =
    let two = and_both (is_null t.1 || value_eq t.1 (value_at fields t.0)) (list_all (λ f. is_null f.1 || value_eq f.1 (value_at fields f.0)) ts) h in
    ((λ some. (same_value t.1 (value_at fields t.0) (rest (is_null t.1) some two.0), some)), values_in fields ts two.1) where
      rest : (b : Bool) → b ≡ false → (b || value_eq t.1 (value_at fields t.0)) ≡ true → value_eq t.1 (value_at fields t.0) ≡ true
      rest true e h = absurd (cc)
      rest false e h = h

pub template_seeks : (seed : ℕ) (classes : List Class) (space : ℕ) (e : Entry) (t : Template) → matches classes t e ≡ true → seeks seed classes space e (template_keys seed space t) ≡ true
template_seeks seed classes space e Any h = one_is seed classes space e (any_key seed space) (has_first (value_keys seed space e.fields ++ line_keys seed classes space e.class) (any_key seed space) (any_key seed space) refl)
template_seeks seed classes space e (Like t) h =
    let two = and_both (is_sub classes e.class t.class) (list_all (λ f. is_null f.1 || value_eq f.1 (value_at e.fields f.0)) t.fields) h in
    like_seeks seed classes space e t.class (values_asked t.fields) two.0 (few_asked t.fields) (asked_apart t.fields) (asked_hold (IsIn e.fields) t.fields (values_in e.fields t.fields two.1))

pub among_templates : (seed : ℕ) (classes : List Class) (space : ℕ) (e : Entry) (ts : List Template) → list_any (λ t. matches classes t e) ts ≡ true → seeks seed classes space e (keys_of_all seed space ts) ≡ true
among_templates seed classes space e [] h = absurd (cc)
among_templates seed classes space e (t ∷ ts) h = elim (or_cases (matches classes t e) (list_any (λ t. matches classes t e) ts) h) [
  | inl f ↦ seeks_among seed classes space e (template_keys seed space t) (template_keys seed space t ++ keys_of_all seed space ts) (λ k. has_left (template_keys seed space t) (keys_of_all seed space ts) k) (template_seeks seed classes space e t f)
  | inr f ↦ seeks_among seed classes space e (keys_of_all seed space ts) (template_keys seed space t ++ keys_of_all seed space ts) (λ k. has_right (template_keys seed space t) (keys_of_all seed space ts) k) (among_templates seed classes space e ts f)
]

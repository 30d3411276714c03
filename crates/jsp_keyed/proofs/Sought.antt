-- A key that is sought, and the key of a template under which an entry that it matches seeks it.
use Rattle.std.proofs.Common.{◌≡◌, ℕ, Bool, true, false, cond, ◌||◌, List, [], ◌∷◌, ◌++◌, map, Some, refl, ap, sym, ◌∙◌, subst, inl, inr}
use Rattle.std.specs.Prelude.{find, bytes_eq, ◌==◌}
use Rattle.std.specs.List.{list_any}
use Rattle.std.specs.Option.{option_map_or}
use Rattle.std.proofs.lemmas.Bool.{eq-eqb}
use Rattle.std.proofs.lemmas.Bool.Decides.{Decides-int_eq}
use Rattle.std.proofs.lemmas.Slice.Eq.{bytes_eq-Decides}
use Rattle.jsp_types.specs.declared.value.Value.{Value}
use Rattle.jsp_types.specs.declared.value.Value.TheVariants as value
use Rattle.jsp_types.specs.Matching.{is_null, value_eq, value_at}
use Rattle.jsp_table.specs.Numbers.{contains}
use Rattle.jsp_table.proofs.Rising.{or_cases}
use Rattle.jsp_keys.specs.Keys.{class_key, field_key}
use Rattle.jsp_keyed.specs.Finding.{is_sought}
use Rattle.jsp_keyed.proofs.Walking.{eqb_eq}

-- ---- lists of keys

pub or_second : (a b : Bool) → b ≡ true → (a || b) ≡ true
or_second true b k = refl
or_second false b k = k

pub has_first : (keys : List ℕ) (k m : ℕ) → m ≡ k → contains (m ∷ keys) k ≡ true
has_first keys k m e = rw (eq-eqb m k e) refl

pub has_later : (keys : List ℕ) (k m : ℕ) → contains keys k ≡ true → contains (m ∷ keys) k ≡ true
has_later keys k m h = or_second (m == k) (contains keys k) h

pub one_sought : (keys : List ℕ) (k : ℕ) → contains keys k ≡ true → is_sought (k ∷ []) keys ≡ true
one_sought keys k h = rw h refl

pub sought_too : (sought keys : List ℕ) (k : ℕ) → contains sought k ≡ true → contains keys k ≡ true → is_sought sought keys ≡ true
sought_too [] keys k h e = absurd (cc)
sought_too (m ∷ sought) keys k h e = elim (or_cases (m == k) (contains sought k) h) [
  | inl f ↦ rw (ap (contains keys) (eqb_eq m k f) ∙ e) refl
  | inr f ↦ or_second (contains keys m) (list_any (contains keys) sought) (sought_too sought keys k f e)
]

pub more_keys : (sought : List ℕ) (k : ℕ) (keys : List ℕ) → is_sought sought keys ≡ true → is_sought sought (k ∷ keys) ≡ true
more_keys [] k keys h = h
more_keys (m ∷ sought) k keys h = elim (or_cases (contains keys m) (list_any (contains keys) sought) h) [
  | inl f ↦ rw (has_later keys m k f) refl
  | inr f ↦ or_second (contains (k ∷ keys) m) (list_any (contains (k ∷ keys)) sought) (more_keys sought k keys f)
]

-- ---- which templates may match an entry

pub same_value : (a b : Value) → value_eq a b ≡ true → a ≡ b
same_value value.Null value.Null h = refl
same_value value.Null (value.Int n) h = absurd (cc)
same_value value.Null (value.Text t) h = absurd (cc)
same_value value.Null (value.Bool c) h = absurd (cc)
same_value (value.Int m) value.Null h = absurd (cc)
same_value (value.Int m) (value.Int n) h = ap value.Int ((Decides-int_eq m n).0 h)
same_value (value.Int m) (value.Text t) h = absurd (cc)
same_value (value.Int m) (value.Bool c) h = absurd (cc)
same_value (value.Text s) value.Null h = absurd (cc)
same_value (value.Text s) (value.Int n) h = absurd (cc)
same_value (value.Text s) (value.Text t) h = ap value.Text ((bytes_eq-Decides s t).0 h)
same_value (value.Text s) (value.Bool c) h = absurd (cc)
same_value (value.Bool b) value.Null h = absurd (cc)
same_value (value.Bool b) (value.Int n) h = absurd (cc)
same_value (value.Bool b) (value.Text t) h = absurd (cc)
same_value (value.Bool true) (value.Bool true) h = refl
same_value (value.Bool true) (value.Bool false) h = absurd (cc)
same_value (value.Bool false) (value.Bool true) h = absurd (cc)
same_value (value.Bool false) (value.Bool false) h = refl

-- the value of a name that isn't null stands in a field of that name
pub value_stands : (seed space : ℕ) (fields : List (List ℕ × Value)) (name : List ℕ) → is_null (value_at fields name) ≡ false
    → contains (map (λ f. field_key seed space f.0 f.1) fields) (field_key seed space name (value_at fields name)) ≡ true
value_stands seed space [] name some = absurd (cc)
value_stands seed space (f ∷ fields) name some = at (bytes_eq f.0 name) refl (value_stands seed space fields name) where
  keys : List ℕ
  keys = map (λ f. field_key seed space f.0 f.1) fields

  at : (b : Bool) → bytes_eq f.0 name ≡ b → (is_null (value_at fields name) ≡ false → contains keys (field_key seed space name (value_at fields name)) ≡ true)
      → contains (field_key seed space f.0 f.1 ∷ keys) (field_key seed space name (value_at (f ∷ fields) name)) ≡ true
  at true e rest =
      let this : value_at (f ∷ fields) name ≡ f.1 = ap (λ b. option_map_or (λ g. g.1) (cond b (Some f) (find (λ g. bytes_eq g.0 name) fields)) value.Null) e in
      let same : f.0 ≡ name = (bytes_eq-Decides f.0 name).0 e in
      has_first keys (field_key seed space name (value_at (f ∷ fields) name)) (field_key seed space f.0 f.1) (ap (λ w. field_key seed space w f.1) same ∙ ap (field_key seed space name) (sym this))
  at false e rest =
      let that : value_at (f ∷ fields) name ≡ value_at fields name = ap (λ b. option_map_or (λ g. g.1) (cond b (Some f) (find (λ g. bytes_eq g.0 name) fields)) value.Null) e in
      has_later keys (field_key seed space name (value_at (f ∷ fields) name)) (field_key seed space f.0 f.1)
      (subst (λ v. contains keys (field_key seed space name v) ≡ true) (sym that) (rest (ap is_null (sym that) ∙ some)))

-- what is in one part of a list
pub has_left : (a b : List ℕ) (k : ℕ) → contains a k ≡ true → contains (a ++ b) k ≡ true
has_left [] b k h = absurd (cc)
has_left (m ∷ a) b k h = elim (or_cases (m == k) (contains a k) h) [
  | inl e ↦ rw e refl
  | inr e ↦ or_second (m == k) (contains (a ++ b) k) (has_left a b k e)
]

pub has_right : (a b : List ℕ) (k : ℕ) → contains b k ≡ true → contains (a ++ b) k ≡ true
has_right [] b k h = h
has_right (m ∷ a) b k h = or_second (m == k) (contains (a ++ b) k) (has_right a b k h)

-- a class above another
pub line_stands : (seed space : ℕ) (line : List (List ℕ)) (class : List ℕ) → list_any (bytes_eq class) line ≡ true → contains (map (class_key seed space) line) (class_key seed space class) ≡ true
line_stands seed space [] class h = absurd (cc)
line_stands seed space (name ∷ line) class h = elim (or_cases (bytes_eq class name) (list_any (bytes_eq class) line) h) [
  | inl e ↦ has_first (map (class_key seed space) line) (class_key seed space class) (class_key seed space name) (ap (class_key seed space) (sym ((bytes_eq-Decides class name).0 e)))
  | inr e ↦ has_later (map (class_key seed space) line) (class_key seed space class) (class_key seed space name) (line_stands seed space line class e)
]

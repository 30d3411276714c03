-- Which rows have which keys.
use Rattle.std.proofs.Common.{◌≡◌, ℕ, zero, suc, ◌<◌, Bool, true, false, cond, ◌&&◌, ◌||◌, eqb, List, [], ◌∷◌, length, map, get_or, Some, inl, inr, refl, ap, sym, ◌∙◌, subst, arith}
use Rattle.std.specs.Prelude.{find, bytes_eq}
use Rattle.std.specs.List.{list_all}
use Rattle.std.specs.Option.{option_map_or}
use Rattle.std.proofs.lemmas.Bool.{cases_eq, eq-eqb, ne_eqb}
use Rattle.std.proofs.lemmas.Bool.Decides.{Decides-int_eq}
use Rattle.std.proofs.lemmas.Slice.Eq.{bytes_eq-Decides}
use Rattle.jsp_types.specs.declared.value.Value.{Value}
use Rattle.jsp_types.specs.declared.value.Value.TheVariants as value
use Rattle.jsp_types.specs.declared.class.Class.{Class}
use Rattle.jsp_types.specs.declared.entry.Entry.{Entry}
use Rattle.jsp_types.specs.declared.entry.Template.TheVariants.{Like}
use Rattle.jsp_types.specs.Matching.{is_null, value_eq, value_at, matches}
use Rattle.jsp_model.specs.declared.state.Row.{Row}
use Rattle.jsp_table.specs.Numbers.{contains}
use Rattle.jsp_keys.specs.Keys.{space_key, class_key, field_key}
use Rattle.jsp_keyed.specs.Finding.{is_sought}
use Rattle.jsp_keyed.specs.Changing.{HasSameKeys as HasSameKeysBy}
use Rattle.jsp_index.specs.Changing.{HasSameKeys}
use Rattle.jsp_index.specs.Finding.{number, is_like}
use Rattle.jsp_index.specs.Keys.{value_key, row_keys}

pub and_both : (a b : Bool) → (a && b) ≡ true → (a ≡ true) × (b ≡ true)
and_both true b h = (refl, h)
and_both false b h = absurd (cc)

pub eqb_eq : (a b : ℕ) → eqb a b ≡ true → a ≡ b
eqb_eq a b h = elim (cases_eq a b) [ inl e ↦ e | inr ne ↦ absurd (cc (ne_eqb a b ne, h)) ]

pub same_value : (a b : Value) → value_eq a b ≡ true → a ≡ b
same_value value.Null value.Null h = refl
same_value value.Null (value.Int n) h = absurd (cc)
same_value value.Null (value.Text t) h = absurd (cc)
same_value value.Null (value.Bool c) h = absurd (cc)
same_value (value.Int m) value.Null h = absurd (cc)
same_value (value.Int m) (value.Int n) h = ap value.Int ((Decides-int_eq m n).0 h)
same_value (value.Int m) (value.Text t) h = absurd (cc)
same_value (value.Int m) (value.Bool c) h = absurd (cc)
same_value (value.Text s) value.Null h = absurd (cc)
same_value (value.Text s) (value.Int n) h = absurd (cc)
same_value (value.Text s) (value.Text t) h = ap value.Text ((bytes_eq-Decides s t).0 h)
same_value (value.Text s) (value.Bool c) h = absurd (cc)
same_value (value.Bool b) value.Null h = absurd (cc)
same_value (value.Bool b) (value.Int n) h = absurd (cc)
same_value (value.Bool b) (value.Text t) h = absurd (cc)
same_value (value.Bool true) (value.Bool true) h = refl
same_value (value.Bool true) (value.Bool false) h = absurd (cc)
same_value (value.Bool false) (value.Bool true) h = absurd (cc)
same_value (value.Bool false) (value.Bool false) h = refl

-- what all pass, the one at a place passes
all_at : {X : Type 0} (test : X → Bool) (xs : List X) (k : ℕ) (x : X) → k < length xs → x ≡ get_or xs k x → list_all test xs ≡ true → test x ≡ true
all_at test [] k x lt is h = absurd (omega arith)
all_at test (y ∷ ys) zero x lt is h = rw is (and_both (test y) (list_all test ys) h).0
all_at test (y ∷ ys) (suc k) x lt is h = all_at test ys k x (omega arith) is (and_both (test y) (list_all test ys) h).1

-- ---- which rows have which keys

or_first : (a b : Bool) → a ≡ true → (a || b) ≡ true
or_first true b h = refl
or_first false b h = absurd (cc)

or_second : (a b : Bool) → b ≡ true → (a || b) ≡ true
or_second true b h = refl
or_second false b h = h

module _ (seed : ℕ) where
  pub space_has : (space : ℕ) (r : Row) → eqb r.space space ≡ true → contains (row_keys seed r) (space_key seed space) ≡ true
  space_has space r h = or_first (eqb (space_key seed r.space) (space_key seed space)) _ (eq-eqb (space_key seed r.space) (space_key seed space) (ap (space_key seed) (eqb_eq r.space space h)))

  pub space_sought : (space : ℕ) (r : Row) → eqb r.space space ≡ true → is_sought (space_key seed space ∷ []) (row_keys seed r) ≡ true
  space_sought space r h = or_first (contains (row_keys seed r) (space_key seed space)) false (space_has space r h)

  pub class_has : (space : ℕ) (class : List ℕ) (r : Row) → r.space ≡ space → class ≡ r.entry.class → contains (row_keys seed r) (class_key seed space class) ≡ true
  class_has space class r at same =
      or_second (eqb (space_key seed r.space) (class_key seed space class)) _ (or_first (eqb (class_key seed r.space r.entry.class) (class_key seed space class)) _ (eq-eqb (class_key seed r.space r.entry.class) (class_key seed space class) (both at (sym same)))) where
        both : {s t : ℕ} {c d : List ℕ} → s ≡ t → c ≡ d → class_key seed s c ≡ class_key seed t d
        both e g = rw (e, g) refl

  -- the first field of that name, where it isn't null, has its value's key
  value_has : (space : ℕ) (fields : List (List ℕ × Value)) (name : List ℕ) → is_null (value_at fields name) ≡ false → contains (map (value_key seed space) fields) (field_key seed space name (value_at fields name)) ≡ true
  value_has space [] name some = absurd (cc)
  value_has space (f ∷ fields) name some = at (bytes_eq f.0 name) refl (value_has space fields name) where
    at : (b : Bool) → bytes_eq f.0 name ≡ b → (is_null (value_at fields name) ≡ false → contains (map (value_key seed space) fields) (field_key seed space name (value_at fields name)) ≡ true)
        → contains (map (value_key seed space) (f ∷ fields)) (field_key seed space name (value_at (f ∷ fields) name)) ≡ true
    at true e rest =
        let this : value_at (f ∷ fields) name ≡ f.1 = ap (λ b. option_map_or (λ g. g.1) (cond b (Some f) (find (λ g. bytes_eq g.0 name) fields)) value.Null) e in
        let same : f.0 ≡ name = (bytes_eq-Decides f.0 name).0 e in
        let key : value_key seed space f ≡ field_key seed space name f.1 = ap (λ b. cond b (space_key seed space) (field_key seed space f.0 f.1)) (ap is_null (sym this) ∙ some) ∙ ap (λ w. field_key seed space w f.1) same in
        subst (λ (v : Value). contains (map (value_key seed space) (f ∷ fields)) (field_key seed space name v) ≡ true) (sym this) (or_first (eqb (value_key seed space f) (field_key seed space name f.1)) _ (eq-eqb (value_key seed space f) (field_key seed space name f.1) key))
    at false e rest =
        let that : value_at (f ∷ fields) name ≡ value_at fields name = ap (λ b. option_map_or (λ g. g.1) (cond b (Some f) (find (λ g. bytes_eq g.0 name) fields)) value.Null) e in
        subst (λ (v : Value). contains (map (value_key seed space) (f ∷ fields)) (field_key seed space name v) ≡ true) (sym that) (or_second (eqb (value_key seed space f) (field_key seed space name (value_at fields name))) _ (rest (ap is_null (sym that) ∙ some)))

  pub field_has : (classes : List Class) (like : Entry) (space k : ℕ) (f : List ℕ × Value) → k < length like.fields → f ≡ get_or like.fields k f → is_null f.1 ≡ false
      → (r : Row) → is_like classes space (Like like) r ≡ true → contains (row_keys seed r) (field_key seed space f.0 f.1) ≡ true
  field_has classes like space k f lt is some r h =
      let two = and_both (eqb r.space space) (matches classes (Like like) r.entry) h in
      let test : (List ℕ × Value) → Bool = λ g. is_null g.1 || value_eq g.1 (value_at r.entry.fields g.0) in
      let passes = all_at test like.fields k f lt is (and_both _ (list_all test like.fields) two.1).1 in
      let same : f.1 ≡ value_at r.entry.fields f.0 = same_value f.1 (value_at r.entry.fields f.0) (ap (λ b. b || value_eq f.1 (value_at r.entry.fields f.0)) (sym some) ∙ passes) in
      let has = value_has r.space r.entry.fields f.0 (ap is_null (sym same) ∙ some) in
      let key : field_key seed r.space f.0 (value_at r.entry.fields f.0) ≡ field_key seed space f.0 f.1 = both (eqb_eq r.space space two.0) (sym same) in
      or_second (eqb (space_key seed r.space) (field_key seed space f.0 f.1)) _ (or_second (eqb (class_key seed r.space r.entry.class) (field_key seed space f.0 f.1)) _ (ap (contains (map (value_key seed r.space) r.entry.fields)) (sym key) ∙ has)) where
        both : {s t : ℕ} {v w : Value} → s ≡ t → v ≡ w → field_key seed s f.0 v ≡ field_key seed t f.0 w
        both e g = rw (e, g) refl

-- what keeps its number, space, entry and end keeps its keys
pub same_keys : (row new : Row) → HasSameKeys row new → HasSameKeysBy number row_keys (λ (r : Row). r.end) row new
same_keys row new k = record { number = k.number; keys = λ seed. both seed k.space k.entry; end = k.end } where
  both : (seed : ℕ) {s t : ℕ} {e f : Entry} → s ≡ t → e ≡ f → row_keys seed (record row { space = s; entry = e }) ≡ row_keys seed (record row { space = t; entry = f })
  both seed p q = rw (p, q) refl

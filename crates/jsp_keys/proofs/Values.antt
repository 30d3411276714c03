-- The values that a template asks for: an entry that it matches has each of them in a field of its own.
use Rattle.std.proofs.Common.{◌≡◌, ℕ, zero, suc, ◌+◌, ◌-◌, ◌<◌, ◌≤◌, Bool, true, false, not, cond, ◌||◌, List, [], ◌∷◌, ◌++◌, length, map, take, drop, get_or, flat_map, Some, None, refl, ap, sym, ◌∙◌, arith, inl, inr}
use Rattle.std.specs.Prelude.{find, filter, bytes_eq}
use Rattle.std.specs.List.{AllByRecursion, list_any, slice_get}
use Rattle.std.specs.Option.{option_map_or}
use Rattle.std.proofs.lemmas.Grind.{flat_map-append}
use Rattle.std.proofs.lemmas.List.{append-nil, length-append, take_more, drop_more}
use Rattle.std.proofs.lemmas.Slice.Eq.{bytes_eq-Decides}
use Rattle.jsp_types.specs.declared.value.Value.{Value}
use Rattle.jsp_types.specs.declared.value.Value.TheVariants as value
use Rattle.jsp_types.specs.declared.entry.Template.{Template}
use Rattle.jsp_types.specs.Matching.{is_null, value_at}
use Rattle.jsp_table.specs.Numbers.{contains}
use Rattle.jsp_table.proofs.Rising.{or_cases}
use Rattle.jsp_table.proofs.Finding.{each}
use Rattle.jsp_keys.specs.Templates.{values_behind, values_asked, template_keys, keys_of_all}

abbrev pub Field : Type 0
Field = List ℕ × Value

-- ---- which they are

-- one more field is seen
pub one_behind : (fields : List Field) (i : ℕ) (d : Field) → i < length fields
    → values_behind (take i fields) (drop i fields) ≡ cond (is_null (get_or fields i d).1 || list_any (λ g. bytes_eq g.0 (get_or fields i d).0) (take i fields)) (values_behind (take (i + 1) fields) (drop (i + 1) fields)) (get_or fields i d ∷ values_behind (take (i + 1) fields) (drop (i + 1) fields))
one_behind fields i d lt = rw (drop_more fields i d lt, take_more fields i d lt) refl

hold : (P : Field → Type 0) (seen fields : List Field) → AllByRecursion (λ f. is_null f.1 ≡ false → P f) fields → AllByRecursion P (values_behind seen fields)
hold P seen [] h = tt
hold P seen (f ∷ fields) h = at (is_null f.1) (list_any (λ g. bytes_eq g.0 f.0) seen) refl (hold P (seen ++ f ∷ []) fields h.1) where
  at : (b c : Bool) → is_null f.1 ≡ b → AllByRecursion P (values_behind (seen ++ f ∷ []) fields) → AllByRecursion P (cond (b || c) (values_behind (seen ++ f ∷ []) fields) (f ∷ values_behind (seen ++ f ∷ []) fields))
  at true c e rest = rest
  at false true e rest = rest
  at false false e rest = (h.0 e, rest)

-- no two are of one name
abbrev pub AreApart : List Field → Type 0
AreApart [] = Unit {0}
AreApart (v ∷ values) = AllByRecursion (λ w. bytes_eq v.0 w.0 ≡ false) values × AreApart values

any_split : (p : Field → Bool) (xs : List Field) (x : Field) → list_any p (xs ++ x ∷ []) ≡ false → (list_any p xs ≡ false) × (p x ≡ false)
any_split p [] x h = (refl, first (p x) h) where
  first : (b : Bool) → (b || false) ≡ false → b ≡ false
  first true e = absurd (cc)
  first false e = refl
any_split p (y ∷ xs) x h = at (p y) h (any_split p xs x) where
  at : (b : Bool) → (b || list_any p (xs ++ x ∷ [])) ≡ false → (list_any p (xs ++ x ∷ []) ≡ false → (list_any p xs ≡ false) × (p x ≡ false)) → ((b || list_any p xs) ≡ false) × (p x ≡ false)
  at true e rest = absurd (cc)
  at false e rest = rest e

apart_behind : (seen fields : List Field) → AllByRecursion (λ v. list_any (λ g. bytes_eq g.0 v.0) seen ≡ false) (values_behind seen fields) × AreApart (values_behind seen fields)
apart_behind seen [] = (tt, tt)
apart_behind seen (f ∷ fields) = at (is_null f.1) (list_any (λ g. bytes_eq g.0 f.0) seen) refl (apart_behind (seen ++ f ∷ []) fields) where
  rest : List Field
  rest = values_behind (seen ++ f ∷ []) fields

  before : AllByRecursion (λ v. list_any (λ g. bytes_eq g.0 v.0) (seen ++ f ∷ []) ≡ false) rest → AllByRecursion (λ v. list_any (λ g. bytes_eq g.0 v.0) seen ≡ false) rest
  before h = each (λ v. list_any (λ g. bytes_eq g.0 v.0) (seen ++ f ∷ []) ≡ false) (λ v. list_any (λ g. bytes_eq g.0 v.0) seen ≡ false) rest h (λ v e. (any_split (λ g. bytes_eq g.0 v.0) seen f e).0)

  behind : AllByRecursion (λ v. list_any (λ g. bytes_eq g.0 v.0) (seen ++ f ∷ []) ≡ false) rest → AllByRecursion (λ w. bytes_eq f.0 w.0 ≡ false) rest
  behind h = each (λ v. list_any (λ g. bytes_eq g.0 v.0) (seen ++ f ∷ []) ≡ false) (λ w. bytes_eq f.0 w.0 ≡ false) rest h (λ v e. (any_split (λ g. bytes_eq g.0 v.0) seen f e).1)

  at : (b c : Bool) → list_any (λ g. bytes_eq g.0 f.0) seen ≡ c → AllByRecursion (λ v. list_any (λ g. bytes_eq g.0 v.0) (seen ++ f ∷ []) ≡ false) rest × AreApart rest
      → AllByRecursion (λ v. list_any (λ g. bytes_eq g.0 v.0) seen ≡ false) (cond (b || c) rest (f ∷ rest)) × AreApart (cond (b || c) rest (f ∷ rest))
  at true c e h = (before h.0, h.1)
  at false true e h = (before h.0, h.1)
  at false false e h = ((e, before h.0), (behind h.0, h.1))

take_all_of : (P : Field → Type 0) (n : ℕ) (xs : List Field) → AllByRecursion P xs → AllByRecursion P (take n xs)
take_all_of P zero xs h = tt
take_all_of P (suc n) [] h = tt
take_all_of P (suc n) (x ∷ xs) h = (h.0, take_all_of P n xs h.1)

take_apart : (n : ℕ) (xs : List Field) → AreApart xs → AreApart (take n xs)
take_apart zero xs h = tt
take_apart (suc n) [] h = tt
take_apart (suc n) (x ∷ xs) h = (take_all_of (λ w. bytes_eq x.0 w.0 ≡ false) n xs h.0, take_apart n xs h.1)

few_taken : (n : ℕ) (xs : List Field) → length (take n xs) ≤ n
few_taken zero xs = omega arith
few_taken (suc n) [] = omega arith
few_taken (suc n) (x ∷ xs) = omega (arith, few_taken n xs)

pub few_asked : (fields : List Field) → length (values_asked fields) ≤ 4
few_asked fields = few_taken 4 (values_behind [] fields)

pub asked_apart : (fields : List Field) → AreApart (values_asked fields)
asked_apart fields = take_apart 4 (values_behind [] fields) (apart_behind [] fields).1

pub asked_hold : (P : Field → Type 0) (fields : List Field) → AllByRecursion (λ f. is_null f.1 ≡ false → P f) fields → AllByRecursion P (values_asked fields)
asked_hold P fields h = take_all_of P 4 (values_behind [] fields) (hold P [] fields h)

-- ---- each stands in a field of its own

-- the field that has its name has the value, which isn't null
abbrev pub IsIn : List Field → Field → Type 0
IsIn fields v = (v.1 ≡ value_at fields v.0) × (is_null v.1 ≡ false)

abbrev others : List ℕ → List Field → List Field
others name values = filter (λ v. not (bytes_eq name v.0)) values

all_others : (name : List ℕ) (values : List Field) → AllByRecursion (λ w. bytes_eq name w.0 ≡ false) values → others name values ≡ values
all_others name [] h = refl
all_others name (v ∷ values) h = rw (h.0) (ap (λ w. v ∷ w) (all_others name values h.1))

others_apart : (name : List ℕ) (values : List Field) → AreApart values → AreApart (others name values)
others_apart name [] h = tt
others_apart name (v ∷ values) h = at (bytes_eq name v.0) (others_apart name values h.1) where
  fewer : (ws : List Field) → AllByRecursion (λ w. bytes_eq v.0 w.0 ≡ false) ws → AllByRecursion (λ w. bytes_eq v.0 w.0 ≡ false) (others name ws)
  fewer [] g = tt
  fewer (w ∷ ws) g = one (bytes_eq name w.0) (fewer ws g.1) where
    one : (b : Bool) → AllByRecursion (λ w. bytes_eq v.0 w.0 ≡ false) (others name ws) → AllByRecursion (λ w. bytes_eq v.0 w.0 ≡ false) (cond (not b) (w ∷ others name ws) (others name ws))
    one true rest = rest
    one false rest = (g.0, rest)

  at : (b : Bool) → AreApart (others name values) → AreApart (cond (not b) (v ∷ others name values) (others name values))
  at true rest = rest
  at false rest = (fewer values h.0, rest)

others_hold : (P Q : Field → Type 0) (name : List ℕ) (values : List Field) → ((v : Field) → bytes_eq name v.0 ≡ false → P v → Q v) → AllByRecursion P values → AllByRecursion Q (others name values)
others_hold P Q name [] f h = tt
others_hold P Q name (v ∷ values) f h = at (bytes_eq name v.0) refl (others_hold P Q name values f h.1) where
  at : (b : Bool) → bytes_eq name v.0 ≡ b → AllByRecursion Q (others name values) → AllByRecursion Q (cond (not b) (v ∷ others name values) (others name values))
  at true e rest = rest
  at false e rest = (f v e h.0, rest)

-- at most one has the name
one_of_name : (name : List ℕ) (values : List Field) → AreApart values → length values ≤ suc (length (others name values))
one_of_name name [] h = omega arith
one_of_name name (v ∷ values) h = at (bytes_eq name v.0) refl (one_of_name name values h.1) where
  at : (b : Bool) → bytes_eq name v.0 ≡ b → length values ≤ suc (length (others name values)) → suc (length values) ≤ suc (length (cond (not b) (v ∷ others name values) (others name values)))
  at true e rest =
      let same : name ≡ v.0 = (bytes_eq-Decides name v.0).0 e in
      let all : others name values ≡ values = ap (λ w. others w values) same ∙ all_others v.0 values h.0 in
      no_less (ap length all) where
        no_less : {a b : ℕ} → b ≡ a → suc a ≤ suc b
        no_less e = omega arith
  at false e rest = omega (arith, rest)

none_of_name : (name : List ℕ) (values : List Field) → list_any (λ v. bytes_eq name v.0) values ≡ false → others name values ≡ values
none_of_name name [] h = refl
none_of_name name (v ∷ values) h = at (bytes_eq name v.0) h (none_of_name name values) where
  at : (b : Bool) → (b || list_any (λ v. bytes_eq name v.0) values) ≡ false → (list_any (λ v. bytes_eq name v.0) values ≡ false → others name values ≡ values) → cond (not b) (v ∷ others name values) (others name values) ≡ v ∷ values
  at true e rest = absurd (cc)
  at false e rest = ap (λ w. v ∷ w) (rest e)

value_here : (f : Field) (fields : List Field) (name : List ℕ) → bytes_eq f.0 name ≡ true → value_at (f ∷ fields) name ≡ f.1
value_here f fields name e = ap (λ b. option_map_or (λ g. g.1) (cond b (Some f) (find (λ g. bytes_eq g.0 name) fields)) value.Null) e

value_behind : (f : Field) (fields : List Field) (name : List ℕ) → bytes_eq f.0 name ≡ false → value_at (f ∷ fields) name ≡ value_at fields name
value_behind f fields name e = ap (λ b. option_map_or (λ g. g.1) (cond b (Some f) (find (λ g. bytes_eq g.0 name) fields)) value.Null) e

module _ (key : List ℕ → Value → ℕ) (keys : List ℕ) where
  -- one of them is of the field
  pub field_has : (f : Field) (fields values : List Field) → list_any (λ v. bytes_eq f.0 v.0) values ≡ true → AllByRecursion (IsIn (f ∷ fields)) values → AllByRecursion (λ v. contains keys (key v.0 v.1) ≡ true) values → contains keys (key f.0 f.1) ≡ true
  field_has f fields [] some is has = absurd (cc)
  field_has f fields (v ∷ values) some is has = elim (or_cases (bytes_eq f.0 v.0) (list_any (λ v. bytes_eq f.0 v.0) values) some) [
    | inl e ↦ ap (λ w. contains keys (key w f.1)) ((bytes_eq-Decides f.0 v.0).0 e) ∙ (ap (λ w. contains keys (key v.0 w)) (sym (is.0.0 ∙ value_here f fields v.0 e)) ∙ has.0)
    | inr e ↦ field_has f fields values e is.1 has.1
  ]

  -- so many fields as values have the key of one
  pub each_has : (fields values : List Field) → AreApart values → AllByRecursion (IsIn fields) values → AllByRecursion (λ v. contains keys (key v.0 v.1) ≡ true) values
      → length values ≤ length (filter (contains keys) (map (λ f. key f.0 f.1) fields))
  each_has [] [] apart is has = omega arith
  each_has [] (v ∷ values) apart is has = absurd (cc (is.0.1, ap is_null is.0.0))
  each_has (f ∷ fields) values apart is has =
      let left = others f.0 values in
      let here : AllByRecursion (IsIn fields) left = others_hold (IsIn (f ∷ fields)) (IsIn fields) f.0 values (λ v e h. (h.0 ∙ value_behind f fields v.0 e, h.1)) is in
      let there : AllByRecursion (λ v. contains keys (key v.0 v.1) ≡ true) left = others_hold (λ v. contains keys (key v.0 v.1) ≡ true) (λ v. contains keys (key v.0 v.1) ≡ true) f.0 values (λ v e h. h) has in
      at (list_any (λ v. bytes_eq f.0 v.0) values) refl (contains keys (key f.0 f.1)) refl (each_has fields left (others_apart f.0 values apart) here there) where
        found : List ℕ
        found = filter (contains keys) (map (λ f. key f.0 f.1) fields)

        at : (a : Bool) → list_any (λ v. bytes_eq f.0 v.0) values ≡ a → (b : Bool) → contains keys (key f.0 f.1) ≡ b → length (others f.0 values) ≤ length found → length values ≤ length (cond b (key f.0 f.1 ∷ found) found)
        at true some true e rest = over (one_of_name f.0 values apart) rest where
          over : {a b c : ℕ} → a ≤ suc b → b ≤ c → a ≤ suc c
          over g h = omega arith
        at true some false e rest = absurd (cc (e, field_has f fields values some is has))
        at false none true e rest = more (ap length (none_of_name f.0 values none)) rest where
          more : {a b c : ℕ} → b ≡ a → b ≤ c → a ≤ suc c
          more g h = omega arith
        at false none false e rest = same (ap length (none_of_name f.0 values none)) rest where
          same : {a b c : ℕ} → b ≡ a → b ≤ c → a ≤ c
          same g h = omega arith

-- ---- the one at a place

here_or_behind : (fields : List Field) (i : ℕ) (f : Field) (b : Bool) → i < length fields → f ≡ get_or fields i f → (is_null f.1 || list_any (λ g. bytes_eq g.0 f.0) (take i fields)) ≡ b
    → values_behind (take i fields) (drop i fields) ≡ cond b (values_behind (take (i + 1) fields) (drop (i + 1) fields)) (f ∷ values_behind (take (i + 1) fields) (drop (i + 1) fields))
here_or_behind fields i f b lt is e =
    let rest = values_behind (take (i + 1) fields) (drop (i + 1) fields) in
    one_behind fields i f lt ∙ (ap (λ (g : Field). cond (is_null g.1 || list_any (λ h. bytes_eq h.0 g.0) (take i fields)) rest (g ∷ rest)) (sym is) ∙ ap (λ (c : Bool). cond c rest (f ∷ rest)) e)

not_not : (b c : Bool) → c ≡ not b → c ≡ true → b ≡ false
not_not true c e f = absurd (cc (f, e))
not_not false c e f = refl

not_yes : (b c : Bool) → c ≡ not b → c ≡ false → b ≡ true
not_yes true c e f = refl
not_yes false c e f = absurd (cc (f, e))

pub value_found : (fields : List Field) (i left place : ℕ) (f : Field) (asks : Bool) → i < length fields → f ≡ get_or fields i f → asks ≡ not (is_null f.1 || list_any (λ g. bytes_eq g.0 f.0) (take i fields)) → asks ≡ true → left ≡ 0
    → slice_get (values_behind (take i fields) (drop i fields)) left ≡ slice_get (values_behind [] fields) place → Some f ≡ slice_get (values_behind [] fields) place
value_found fields i left place f asks lt is e asked none h =
    let b = is_null f.1 || list_any (λ g. bytes_eq g.0 f.0) (take i fields) in
    ap (λ w. slice_get w 0) (sym (here_or_behind fields i f false lt is (not_not b asks e asked))) ∙ (ap (λ (n : ℕ). slice_get (values_behind (take i fields) (drop i fields)) n) (sym none) ∙ h)

pub value_passed : (fields : List Field) (i left place : ℕ) (f : Field) (asks : Bool) → i < length fields → f ≡ get_or fields i f → asks ≡ not (is_null f.1 || list_any (λ g. bytes_eq g.0 f.0) (take i fields)) → asks ≡ false
    → slice_get (values_behind (take i fields) (drop i fields)) left ≡ slice_get (values_behind [] fields) place → slice_get (values_behind (take (i + 1) fields) (drop (i + 1) fields)) left ≡ slice_get (values_behind [] fields) place
value_passed fields i left place f asks lt is e passed h =
    let b = is_null f.1 || list_any (λ g. bytes_eq g.0 f.0) (take i fields) in
    ap (λ w. slice_get w left) (sym (here_or_behind fields i f true lt is (not_yes b asks e passed))) ∙ h

one_less : (n : ℕ) → suc n - 1 ≡ n
one_less n = omega arith

pub value_counted : (fields : List Field) (i left place : ℕ) (f : Field) (asks : Bool) → i < length fields → f ≡ get_or fields i f → asks ≡ not (is_null f.1 || list_any (λ g. bytes_eq g.0 f.0) (take i fields)) → asks ≡ true → (left ≡ 0 → ⊥)
    → slice_get (values_behind (take i fields) (drop i fields)) left ≡ slice_get (values_behind [] fields) place → slice_get (values_behind (take (i + 1) fields) (drop (i + 1) fields)) (left - 1) ≡ slice_get (values_behind [] fields) place
value_counted fields i zero place f asks lt is e asked some h = absurd (some refl)
value_counted fields i (suc left) place f asks lt is e asked some h =
    let b = is_null f.1 || list_any (λ g. bytes_eq g.0 f.0) (take i fields) in
    ap (slice_get (values_behind (take (i + 1) fields) (drop (i + 1) fields))) (one_less left) ∙ (ap (λ w. slice_get w (suc left)) (sym (here_or_behind fields i f false lt is (not_not b asks e asked))) ∙ h)

pub one_counted : (fields : List Field) (i : ℕ) (f : Field) (asks : Bool) → i < length fields → f ≡ get_or fields i f → asks ≡ not (is_null f.1 || list_any (λ g. bytes_eq g.0 f.0) (take i fields)) → asks ≡ true
    → length (values_behind (take i fields) (drop i fields)) ≡ suc (length (values_behind (take (i + 1) fields) (drop (i + 1) fields)))
one_counted fields i f asks lt is e asked =
    let b = is_null f.1 || list_any (λ g. bytes_eq g.0 f.0) (take i fields) in
    ap length (here_or_behind fields i f false lt is (not_not b asks e asked))

pub none_counted : (fields : List Field) (i : ℕ) (f : Field) (asks : Bool) → i < length fields → f ≡ get_or fields i f → asks ≡ not (is_null f.1 || list_any (λ g. bytes_eq g.0 f.0) (take i fields)) → asks ≡ false
    → length (values_behind (take i fields) (drop i fields)) ≡ length (values_behind (take (i + 1) fields) (drop (i + 1) fields))
none_counted fields i f asks lt is e passed =
    let b = is_null f.1 || list_any (λ g. bytes_eq g.0 f.0) (take i fields) in
    ap length (here_or_behind fields i f true lt is (not_yes b asks e passed))

-- what is taken has the same places
pub get_taken : (n : ℕ) (xs : List Field) (i : ℕ) → i < n → slice_get xs i ≡ slice_get (take n xs) i
get_taken zero xs i lt = absurd (omega (arith, lt))
get_taken (suc n) [] i lt = refl
get_taken (suc n) (x ∷ xs) zero lt = refl
get_taken (suc n) (x ∷ xs) (suc i) lt = get_taken n xs i (omega (arith, lt))

pub none_there : (xs : List Field) (i : ℕ) → None ≡ slice_get xs i → length xs ≤ i
none_there [] i e = omega arith
none_there (x ∷ xs) zero e = absurd (cc e)
none_there (x ∷ xs) (suc i) e = omega (arith, none_there xs i e)

-- ---- the keys of some templates

pub one_more : (seed space i : ℕ) (ts : List Template) (t : Template) → i < length ts → t ≡ get_or ts i t
    → length (keys_of_all seed space (take i ts)) + length (template_keys seed space t) ≡ length (keys_of_all seed space (take (i + 1) ts))
one_more seed space i ts t lt is =
    let f = template_keys seed space in
    let more : take (i + 1) ts ≡ take i ts ++ t ∷ [] = take_more ts i t lt ∙ ap (λ w. take i ts ++ w ∷ []) (sym is) in
    ap (λ n. length (flat_map f (take i ts)) + n) (ap length (sym (append-nil (f t))))
    ∙ (sym (length-append (flat_map f (take i ts)) (f t ++ [])) ∙ ap length (sym (flat_map-append f (take i ts) (t ∷ [])) ∙ ap (flat_map f) (sym more)))

-- Rows that are named by shapes.
use Rattle.std.proofs.Common.{◌≡◌, ℕ, zero, suc, ◌+◌, ◌<◌, ◌≤◌, Bool, true, false, not, cond, ◌&&◌, ◌||◌, eqb, ◌-◌, nat_lt, List, [], ◌∷◌, ◌++◌, length, map, take, get_or, set, Option, Some, None, option_map, option_and_then, refl, ap, sym, ◌∙◌, subst, arith}
use Rattle.std.specs.Prelude.{filter, find, bytes_eq}
use Rattle.std.specs.List.{AllByRecursion, list_all}
use Rattle.std.specs.Option.{option_map_or}
use Rattle.std.proofs.lemmas.Bool.Decides.{nat_tests}
use Rattle.std.proofs.lemmas.List.{take_more, take_all}
use Rattle.std.proofs.lemmas.Slice.Eq.{bytes_eq-Decides}
use Rattle.jsp_types.specs.declared.value.Value.{Value}
use Rattle.jsp_types.specs.declared.value.Value.TheVariants as value
use Rattle.jsp_types.specs.declared.class.Class.{Class}
use Rattle.jsp_types.specs.declared.entry.Entry.{Entry}
use Rattle.jsp_types.specs.declared.entry.Template.TheVariants.{Like}
use Rattle.jsp_types.specs.Classes.{is_sub}
use Rattle.jsp_types.specs.Matching.{is_null, value_eq, value_at, matches}
use Rattle.jsp_model.specs.declared.state.Row.{Row}
use Rattle.jsp_table.specs.Numbers.{contains}
use Rattle.jsp_table.proofs.Finding.{each, both}
use Rattle.jsp_keyed.proofs.Named.{All-append}
use Rattle.jsp_keys.specs.Keys.{number_key, space_key, field_key}
use Rattle.jsp_index.specs.declared.shape.Shape.{Shape}
use Rattle.jsp_table.specs.Finding.{AreNamed}
use Rattle.jsp_index.specs.Passed.{AreListed}
use Rattle.jsp_index.specs.Finding.{number, is_like}
use Rattle.jsp_index.specs.Shapes.{key_of_values, is_learned, IsNamedBy, IsShaped, IsNamedByAll, AreShaped}
use Rattle.jsp_index.proofs.Covering.{and_both, eqb_eq, same_value}
use Rattle.jsp_index.proofs.Holders.{all_filtered}
use Rattle.jsp_table.specs.Hints.{names}

-- ---- lists of shapes

pub all_set : {X : Type 0} (P : X → Type 0) (xs : List X) (i : ℕ) (y : X) → AllByRecursion P xs → P y → AllByRecursion P (set xs i y)
all_set P [] i y h this = tt
all_set P (x ∷ xs) zero y h this = (this, h.1)
all_set P (x ∷ xs) (suc i) y h this = (h.0, all_set P xs i y h.1 this)

pub all_at : {X : Type 0} (P : X → Type 0) (xs : List X) (i : ℕ) (d : X) → i < length xs → AllByRecursion P xs → P (get_or xs i d)
all_at P [] i d lt h = absurd (omega (arith, lt))
all_at P (x ∷ xs) zero d lt h = h.0
all_at P (x ∷ xs) (suc i) d lt h = all_at P xs i d (omega (arith, lt)) h.1

taken : {X : Type 0} (P : X → Type 0) (xs : List X) (i : ℕ) (y : X) → AllByRecursion P (take i xs) → P y → AllByRecursion P (take (suc i) (set xs i y))
taken P [] i y h this = tt
taken P (x ∷ xs) zero y h this = (this, tt)
taken P (x ∷ xs) (suc i) y h this = (h.0, taken P xs i y h.1 this)

pub taken_set : {X : Type 0} (P : X → Type 0) (xs : List X) (i : ℕ) (y : X) → AllByRecursion P (take i xs) → P y → AllByRecursion P (take (i + 1) (set xs i y))
taken_set P xs i y h this =
    let more : suc i ≡ i + 1 = omega arith in
    subst (λ (n : ℕ). AllByRecursion P (take n (set xs i y))) more (taken P xs i y h this)

pub front : {X : Type 0} (n : ℕ) (xs ys : List X) → length xs ≡ n → take n (xs ++ ys) ≡ xs
front n xs ys is = subst (λ (k : ℕ). take k (xs ++ ys) ≡ xs) is (whole xs ys) where
  whole : {X : Type 0} (xs ys : List X) → take (length xs) (xs ++ ys) ≡ xs
  whole [] ys = refl
  whole (x ∷ xs) ys = ap (λ w. x ∷ w) (whole xs ys)

module _ (seed : ℕ) where
  -- the rows, by one of the shapes
  pub shaped_at : (shapes : List Shape) (rows : List Row) (i : ℕ) (d : Shape) → i < length shapes → AreShaped seed shapes rows → IsShaped seed (get_or shapes i d) rows
  shaped_at shapes rows i d lt h = each (IsNamedByAll seed shapes) (λ row. IsNamedBy seed row (get_or shapes i d)) rows h (λ row g. all_at (IsNamedBy seed row) shapes i d lt g)

  pub shaped_set : (shapes : List Shape) (rows : List Row) (i : ℕ) (new : Shape) → AreShaped seed shapes rows → IsShaped seed new rows → AreShaped seed (set shapes i new) rows
  shaped_set shapes rows i new h this = both (IsNamedByAll seed shapes) (λ row. IsNamedBy seed row new) (IsNamedByAll seed (set shapes i new)) rows h this (λ row g k. all_set (IsNamedBy seed row) shapes i new g k)

  pub shaped_push : (shapes : List Shape) (rows : List Row) (new : Shape) → AreShaped seed shapes rows → IsShaped seed new rows → AreShaped seed (shapes ++ new ∷ []) rows
  shaped_push shapes rows new h this = both (IsNamedByAll seed shapes) (λ row. IsNamedBy seed row new) (IsNamedByAll seed (shapes ++ new ∷ [])) rows h this (λ row g k. All-append (IsNamedBy seed row) shapes (new ∷ []) g (k, tt))

  -- fewer rows, by fewer shapes
  pub shaped_left : (p : Shape → Bool) (q : Row → Bool) (shapes : List Shape) (rows : List Row) → AreShaped seed shapes rows → AreShaped seed (filter p shapes) (filter q rows)
  shaped_left p q shapes rows h = all_filtered (IsNamedByAll seed (filter p shapes)) q rows (each (IsNamedByAll seed shapes) (IsNamedByAll seed (filter p shapes)) rows h (λ row g. all_filtered (IsNamedBy seed row) p shapes g))

  pub no_shapes : (rows : List Row) → AreShaped seed [] rows
  no_shapes [] = tt
  no_shapes (r ∷ rows) = (tt, no_shapes rows)

  -- the row of one number goes
  pub one_left : (old new : List Shape) (n : ℕ) (rows : List Row) → ((r : Row) → eqb r.number n ≡ false → IsNamedByAll seed old r → IsNamedByAll seed new r) → AreShaped seed old rows → AreShaped seed new (filter (λ (r : Row). not (eqb r.number n)) rows)
  one_left old new n [] keeps h = tt
  one_left old new n (r ∷ rows) keeps h = at (eqb r.number n) refl (one_left old new n rows keeps h.1) where
    left : List Row
    left = filter (λ (x : Row). not (eqb x.number n)) rows

    at : (b : Bool) → eqb r.number n ≡ b → AreShaped seed new left → AreShaped seed new (cond (not b) (r ∷ left) left)
    at true e rest = rest
    at false e rest = (keeps r e h.0, rest)

  same_named : (row new : Row) (shape : Shape) → new.number ≡ row.number → new.space ≡ row.space → new.entry ≡ row.entry → IsNamedBy seed row shape → IsNamedBy seed new shape
  same_named row new shape number space entry h learned k is =
      subst (λ n. names shape.hints k n ≡ true) (sym number)
      (h (rw (← space, ← number) learned) k (ap (λ (e : Entry). key_of_values seed shape.space shape.names e.fields) (sym entry) ∙ is))

  -- a row that changes keeps its number, space and entry
  pub shaped_changed : (shapes : List Shape) (f : Row → Row) (n : ℕ) (rows : List Row) → ((r : Row) → (f r).number ≡ r.number) → ((r : Row) → (f r).space ≡ r.space) → ((r : Row) → (f r).entry ≡ r.entry) → AreShaped seed shapes rows
      → AreShaped seed shapes (map (λ (r : Row). cond (eqb r.number n) (f r) r) rows)
  shaped_changed shapes f n [] number space entry h = tt
  shaped_changed shapes f n (r ∷ rows) number space entry h = (at (eqb r.number n), shaped_changed shapes f n rows number space entry h.1) where
    at : (b : Bool) → IsNamedByAll seed shapes (cond b (f r) r)
    at true = each (IsNamedBy seed r) (IsNamedBy seed (f r)) shapes h.0 (λ shape g. same_named r (f r) shape (number r) (space r) (entry r) g)
    at false = h.0

module _ (seed : ℕ) (shapes : List Shape) (before : List Row) where
  pub none_shaped : AreShaped seed shapes before → AreShaped seed shapes (before ++ [])
  none_shaped h = All-append (IsNamedByAll seed shapes) before [] h tt

  pub all_shaped : (rows : List Row) (i : ℕ) → length rows ≤ i → AreShaped seed shapes (before ++ take i rows) → AreShaped seed shapes (before ++ rows)
  all_shaped rows i le h = subst (λ (w : List Row). AreShaped seed shapes (before ++ w)) (take_all i rows le) h

first_part : {X : Type 0} (P : X → Type 0) (xs ys : List X) → AllByRecursion P (xs ++ ys) → AllByRecursion P xs
first_part P [] ys h = tt
first_part P (x ∷ xs) ys h = (h.0, first_part P xs ys h.1)

second_part : {X : Type 0} (P : X → Type 0) (xs ys : List X) → AllByRecursion P (xs ++ ys) → AllByRecursion P ys
second_part P [] ys h = h
second_part P (x ∷ xs) ys h = second_part P xs ys h.1

-- one row more comes
pub one_shaped : (seed : ℕ) (old new : List Shape) (before rows : List Row) (i : ℕ) (row : Row) → i < length rows → row ≡ get_or rows i row → ((r : Row) → IsNamedByAll seed old r → IsNamedByAll seed new r) → IsNamedByAll seed new row
    → AreShaped seed old (before ++ take i rows) → AreShaped seed new (before ++ take (i + 1) rows)
one_shaped seed old new before rows i row lt is keeps named h =
    let all : AreShaped seed new (before ++ take i rows) = each (IsNamedByAll seed old) (IsNamedByAll seed new) (before ++ take i rows) h keeps in
    let e : take (i + 1) rows ≡ take i rows ++ row ∷ [] = take_more rows i row lt ∙ ap (λ w. take i rows ++ w ∷ []) (sym is) in
    All-append (IsNamedByAll seed new) before (take (i + 1) rows) (first_part (IsNamedByAll seed new) before (take i rows) all)
    (subst (AreShaped seed new) (sym e) (All-append (IsNamedByAll seed new) (take i rows) (row ∷ []) (second_part (IsNamedByAll seed new) before (take i rows) all) (named, tt)))

-- ---- what is learned

-- where no row is learned
pub none_learned : (space : ℕ) (row : Row) → (eqb row.space space && (false || nat_lt row.number 0)) ≡ true → ⊥
none_learned space row learned = cc ((and_both (eqb row.space space) (nat_lt row.number 0) learned).1, least row.number) where
  least : (n : ℕ) → nat_lt n 0 ≡ false
  least n = grind (arith, nat_tests)

-- ---- which values a template and what it matches have in common

pub value_of_match : (fields given : List (List ℕ × Value)) (name : List ℕ) → list_all (λ f. is_null f.1 || value_eq f.1 (value_at fields f.0)) given ≡ true → is_null (value_at given name) ≡ false → value_at fields name ≡ value_at given name
value_of_match fields [] name h some = absurd (cc)
value_of_match fields (f ∷ given) name h some = at (bytes_eq f.0 name) refl (value_of_match fields given name two.1) where
  two : ((is_null f.1 || value_eq f.1 (value_at fields f.0)) ≡ true) × (list_all (λ f. is_null f.1 || value_eq f.1 (value_at fields f.0)) given ≡ true)
  two = and_both (is_null f.1 || value_eq f.1 (value_at fields f.0)) (list_all (λ f. is_null f.1 || value_eq f.1 (value_at fields f.0)) given) h

  left : (b : Bool) → b ≡ false → (b || value_eq f.1 (value_at fields f.0)) ≡ true → value_eq f.1 (value_at fields f.0) ≡ true
  left true e g = absurd (cc)
  left false e g = g

  at : (b : Bool) → bytes_eq f.0 name ≡ b → (is_null (value_at given name) ≡ false → value_at fields name ≡ value_at given name) → value_at fields name ≡ value_at (f ∷ given) name
  at true e rest =
      let this : value_at (f ∷ given) name ≡ f.1 = ap (λ b. option_map_or (λ g. g.1) (cond b (Some f) (find (λ g. bytes_eq g.0 name) given)) value.Null) e in
      let same : f.0 ≡ name = (bytes_eq-Decides f.0 name).0 e in
      let equal : f.1 ≡ value_at fields f.0 = same_value f.1 (value_at fields f.0) (left (is_null f.1) (ap is_null (sym this) ∙ some) two.0) in
      ap (value_at fields) (sym same) ∙ (sym equal ∙ sym this)
  at false e rest =
      let that : value_at (f ∷ given) name ≡ value_at given name = ap (λ b. option_map_or (λ g. g.1) (cond b (Some f) (find (λ g. bytes_eq g.0 name) given)) value.Null) e in
      rest (ap is_null (sym that) ∙ some) ∙ sym that

pub key_of_match : (seed space : ℕ) (ns : List (List ℕ)) (fields given : List (List ℕ × Value)) (k : ℕ) → list_all (λ f. is_null f.1 || value_eq f.1 (value_at fields f.0)) given ≡ true → key_of_values seed space ns given ≡ Some k → key_of_values seed space ns fields ≡ Some k
key_of_match seed space [] fields given k h is = is
key_of_match seed space (n ∷ ns) fields given k h is = at (is_null (value_at given n)) refl (key_of_values seed space ns given) refl (λ j. key_of_match seed space ns fields given j h) is where
  at : (b : Bool) → is_null (value_at given n) ≡ b → (o : Option ℕ) → key_of_values seed space ns given ≡ o → ((j : ℕ) → key_of_values seed space ns given ≡ Some j → key_of_values seed space ns fields ≡ Some j)
      → option_and_then (λ v. option_map (λ k. number_key k 10 (field_key seed space n v)) o) (cond b None (Some (value_at given n))) ≡ Some k → key_of_values seed space (n ∷ ns) fields ≡ Some k
  at true e o same rest g = absurd (cc)
  at false e None same rest g = absurd (cc)
  at false e (Some j) same rest g =
      let value : value_at fields n ≡ value_at given n = value_of_match fields given n h e in
      let more : key_of_values seed space ns fields ≡ Some j = rest j same in
      rw (value, e, more) g

-- the value of a field that is found
pub value_found : (fields : List (List ℕ × Value)) (name : List ℕ) (o : Option (List ℕ × Value)) → o ≡ find (λ f. bytes_eq f.0 name) fields → option_map_or (λ f. f.1) o value.Null ≡ value_at fields name
value_found fields name o is = ap (λ w. option_map_or (λ f. f.1) w value.Null) is

-- what a template matches is named under the key of its values
pub named_by_key : (seed space : ℕ) (shape : Shape) (classes : List Class) (like : Entry) (ns : List ℕ) (k : ℕ) (rows : List Row) → shape.is_whole ≡ true → shape.space ≡ space → key_of_values seed space shape.names like.fields ≡ Some k → ((n : ℕ) → names shape.hints k n ≡ true → contains ns n ≡ true)
    → IsShaped seed shape rows → AllByRecursion (λ (r : Row). is_like classes space (Like like) r ≡ true → contains ns r.number ≡ true) rows
named_by_key seed space shape classes like ns k rows whole at is listed h =
    each (λ row. IsNamedBy seed row shape) (λ (r : Row). is_like classes space (Like like) r ≡ true → contains ns r.number ≡ true) rows h
    (λ r g likes.
    let two = and_both (eqb r.space space) (matches classes (Like like) r.entry) likes in
    let values = (and_both (is_sub classes r.entry.class like.class) (list_all (λ f. is_null f.1 || value_eq f.1 (value_at r.entry.fields f.0)) like.fields) two.1).1 in
    let learned : is_learned shape r ≡ true = rw (at, two.0, whole) refl in
    listed r.number (g learned k (ap (λ s. key_of_values seed s shape.names r.entry.fields) at ∙ key_of_match seed space shape.names r.entry.fields like.fields k values is)))

-- a list of all rows of a kind, from the first on
pub listed_from_first : (kind had : Row → Bool) (ns : List ℕ) (rows : List Row) → AllByRecursion (λ (r : Row). 0 < r.number) rows → AreNamed number kind ns rows → AreListed kind had ns 0 rows
listed_from_first kind had ns rows positive named = record { named = named; above = each (λ (r : Row). 0 < r.number) (λ (r : Row). kind r ≡ true → had r ≡ true → 0 < r.number) rows positive (λ r p k h. p) }

-- ---- what is learned next

module _ (seed : ℕ) (old : Shape) (after : ℕ) (behind : after ≡ old.below - 1) where
  before : (n : ℕ) → 0 < n → nat_lt n old.below ≡ false → nat_lt after n ≡ true
  before n positive late = grind (arith, nat_tests, behind)

  -- where the space has no row that it hasn't learned, it has learned them all
  pub learned_all : (rows : List Row) → AllByRecursion (λ (r : Row). (nat_lt after r.number && eqb r.space old.space) ≡ true → eqb r.space old.space ≡ true → ⊥) rows → AllByRecursion (λ (r : Row). 0 < r.number) rows
      → IsShaped seed old rows → IsShaped seed (record old { is_whole = true }) rows
  learned_all [] none positive h = tt
  learned_all (r ∷ rows) none positive h = ((λ learned k is. h.0 (this r none.0 positive.0 learned) k is), learned_all rows none.1 positive.1 h.1) where
    this : (r : Row) → ((nat_lt after r.number && eqb r.space old.space) ≡ true → eqb r.space old.space ≡ true → ⊥) → 0 < r.number → (eqb r.space old.space && true) ≡ true → is_learned old r ≡ true
    this r none positive learned =
        let at : eqb r.space old.space ≡ true = (and_both (eqb r.space old.space) true learned).0 in
        by_cases (nat_lt r.number old.below) refl at where
          by_cases : (b : Bool) → nat_lt r.number old.below ≡ b → eqb r.space old.space ≡ true → is_learned old r ≡ true
          by_cases true e at = rw (at, e) (any old.is_whole) where
            any : (b : Bool) → (b || true) ≡ true
            any true = refl
            any false = refl
          by_cases false e at = absurd (none (rw (before r.number positive e, at) refl) at)

  -- the first row behind is named, and then all up to it are
  pub learned_more : (new : Shape) (below : ℕ) (row : Row) (rows : List Row) → below ≤ suc row.number → ((r : Row) → IsNamedBy seed r (record old { below = below }) → IsNamedBy seed r new) → IsNamedBy seed row new
      → AllByRecursion (λ (r : Row). (nat_lt after r.number && eqb r.space old.space) ≡ true → eqb r.space old.space ≡ true → row.number ≤ r.number) rows → AllByRecursion (λ (r : Row). 0 < r.number) rows
      → AllByRecursion (λ (r : Row). r.number ≡ row.number → r ≡ row) rows → IsShaped seed old rows → IsShaped seed new rows
  learned_more new below row [] up keeps named least positive one h = tt
  learned_more new below row (r ∷ rows) up keeps named least positive one h = (this (is_learned old r) refl, learned_more new below row rows up keeps named least.1 positive.1 one.1 h.1) where
    same : eqb r.space old.space ≡ true → nat_lt r.number old.below ≡ false → nat_lt r.number below ≡ true → r.number ≡ row.number
    same at late soon = equal (least.0 (rw (before r.number positive.0 late, at) refl) at) soon where
      equal : row.number ≤ r.number → nat_lt r.number below ≡ true → r.number ≡ row.number
      equal least soon = grind (arith, nat_tests)

    late : (b : Bool) → (b && (old.is_whole || nat_lt r.number old.below)) ≡ false → b ≡ true → (old.is_whole ≡ false) × (nat_lt r.number old.below ≡ false)
    late true e f = parts old.is_whole (nat_lt r.number old.below) e where
      parts : (a c : Bool) → (a || c) ≡ false → (a ≡ false) × (c ≡ false)
      parts true c g = absurd (cc)
      parts false c g = (refl, g)
    late false e f = absurd (cc)

    soon : (a c : Bool) → a ≡ false → (a || c) ≡ true → c ≡ true
    soon true c e g = absurd (cc)
    soon false c e g = g

    more : (b : Bool) → is_learned (record old { below = below }) r ≡ b → is_learned old r ≡ false → IsNamedBy seed r new
    more false f e = keeps r (λ learned k is. absurd (cc (learned, f)))
    more true f e =
        let two = and_both (eqb r.space old.space) (old.is_whole || nat_lt r.number below) f in
        let none = late (eqb r.space old.space) e two.0 in
        subst (λ (w : Row). IsNamedBy seed w new) (sym (one.0 (same two.0 none.1 (soon old.is_whole (nat_lt r.number below) none.0 two.1)))) named

    this : (b : Bool) → is_learned old r ≡ b → IsNamedBy seed r new
    this true e = keeps r (λ learned k is. h.0 e k is)
    this false e = more (is_learned (record old { below = below }) r) refl e

-- Each row goes its own way.
use Rattle.std.proofs.Common.{◌≡◌, ℕ, suc, ◌<◌, Bool, true, false, cond, ◌&&◌, ◌||◌, eqb, List, [], ◌∷◌, ◌++◌, length, map, Option, Some, None, is_some, option_and_then, refl, ap, sym, ◌∙◌, subst, arith}
use Rattle.std.specs.Prelude.{filter, find, fold, option_map, ◌==◌}
use Rattle.std.specs.List.{AllByRecursion, filter_map, cons_option, list_any}
use Rattle.std.specs.Option.{option_map_or}
use Rattle.std.proofs.lemmas.Bool.{eq-eqb, ne_eqb}
use Rattle.jsp_model.specs.declared.state.Row.{Row}
use Rattle.jsp_table.specs.Finding.{AreNumbered as AreRising}
use Rattle.jsp_table.specs.Places.{living}
use Rattle.jsp_keyed.proofs.Placed.{any_is}
use Rattle.jsp_decided.specs.declared.recorded.Recorded.{Recorded}
use Rattle.jsp_decided.specs.Recording.{becomes, rows_after}
use Rattle.jsp_index.specs.Finding.{row_numbered}
use Rattle.jsp_index.proofs.Covering.{eqb_eq}
use Rattle.jsp_index.proofs.Revisions.{compose}
use Rattle.jsp_decided.specs.Decided.{row_after}
use Rattle.jsp_sight.specs.Rows.{unmarked}
use Rattle.jsp_decided.proofs.Marks.{none_stays, keys_after}

all_same : (rows : List Row) → rows ≡ filter_map (λ (r : Row). Some r) rows
all_same [] = refl
all_same (r ∷ rows) = ap (λ w. r ∷ w) (all_same rows)

pub each_after : (ds : List Recorded) (rows : List Row) → rows_after ds rows ≡ filter_map (row_after ds) rows
each_after [] rows = all_same rows
each_after (d ∷ ds) rows = each_after ds (filter_map (becomes d) rows) ∙ compose (becomes d) (row_after ds) (row_after (d ∷ ds)) rows (λ r. at (becomes d r)) where
  at : (o : Option Row) → option_and_then (row_after ds) o ≡ fold (λ o d. option_and_then (becomes d) o) o ds
  at None = sym (none_stays ds)
  at (Some s) = refl

-- ---- those that pass then

abbrev pub passes_later : (Row → Bool) → List Recorded → Row → Bool
passes_later p ds r = option_map_or p (row_after ds r) false

module _ {X : Type 0} (g : Row → X) (f : Row → Option Row) (p : Row → Bool) (same : (r s : Row) → f r ≡ Some s → g s ≡ g r) where
  pub passing : (rows : List Row) → map g (filter p (filter_map f rows)) ≡ map g (filter (λ r. option_map_or p (f r) false) rows)
  passing [] = refl
  passing (r ∷ rows) = at (f r) refl (passing rows) where
    at : (o : Option Row) → f r ≡ o → map g (filter p (filter_map f rows)) ≡ map g (filter (λ r. option_map_or p (f r) false) rows)
        → map g (filter p (cons_option o (filter_map f rows))) ≡ map g (cond (option_map_or p o false) (r ∷ filter (λ r. option_map_or p (f r) false) rows) (filter (λ r. option_map_or p (f r) false) rows))
    at None e rest = rest
    at (Some s) e rest = here (p s) where
      here : (b : Bool) → map g (cond b (s ∷ filter p (filter_map f rows)) (filter p (filter_map f rows))) ≡ map g (cond b (r ∷ filter (λ r. option_map_or p (f r) false) rows) (filter (λ r. option_map_or p (f r) false) rows))
      here true = both (same r s e) rest where
        both : {a b : X} {us vs : List X} → a ≡ b → us ≡ vs → a ∷ us ≡ b ∷ vs
        both k h = cc
      here false = rest

pub passing_later : {X : Type 0} (g : Row → X) (same : (ds : List Recorded) (r s : Row) → row_after ds r ≡ Some s → g s ≡ g r) (p : Row → Bool) (ds : List Recorded) (rows : List Row) → map g (filter p (rows_after ds rows)) ≡ map g (filter (passes_later p ds) rows)
passing_later g same p ds rows = ap (λ w. map g (filter p w)) (each_after ds rows) ∙ passing g (row_after ds) p (same ds) rows

any_passing : (f : Row → Option Row) (p : Row → Bool) (rows : List Row) → list_any p (filter_map f rows) ≡ list_any (λ r. option_map_or p (f r) false) rows
any_passing f p [] = refl
any_passing f p (r ∷ rows) = at (f r) (any_passing f p rows) where
  at : (o : Option Row) → list_any p (filter_map f rows) ≡ list_any (λ r. option_map_or p (f r) false) rows → list_any p (cons_option o (filter_map f rows)) ≡ (option_map_or p o false || list_any (λ r. option_map_or p (f r) false) rows)
  at None rest = rest
  at (Some s) rest = ap (λ w. p s || w) rest

pub any_later : (p : Row → Bool) (ds : List Recorded) (rows : List Row) → list_any p (rows_after ds rows) ≡ list_any (passes_later p ds) rows
any_later p ds rows = ap (list_any p) (each_after ds rows) ∙ any_passing (row_after ds) p rows

-- ---- at places

any_living : {T : Type 0} (p : T → Bool) (places : List (Option T)) → list_any (λ place. option_map_or p place false) places ≡ list_any p (living places)
any_living p [] = refl
any_living p (None ∷ places) = any_living p places
any_living p (Some x ∷ places) = ap (λ w. p x || w) (any_living p places)

pub any_placed : (p : Row → Bool) (places : List (Option Row)) → list_any (λ place. option_map_or p place false) places ≡ list_any p (living places)
any_placed p places = any_living p places

pub count_placed : (p : Row → Bool) (places : List (Option Row)) → length (filter (λ place. option_map_or p place false) places) ≡ length (filter p (living places))
count_placed p [] = refl
count_placed p (None ∷ places) = count_placed p places
count_placed p (Some x ∷ places) = at (p x) (count_placed p places) where
  at : (b : Bool) → length (filter (λ place. option_map_or p place false) places) ≡ length (filter p (living places))
      → length (cond b (Some x ∷ filter (λ place. option_map_or p place false) places) (filter (λ place. option_map_or p place false) places)) ≡ length (cond b (x ∷ filter p (living places)) (filter p (living places)))
  at true rest = ap (λ (n : ℕ). suc n) rest
  at false rest = rest

-- ---- at a number

module _ (f : Row → Option Row) (keeps : (r s : Row) → f r ≡ Some s → s.number ≡ r.number) (n : ℕ) where
  none_above : (rows : List Row) → AllByRecursion (λ (y : Row). n < y.number) rows → row_numbered n (filter_map f rows) ≡ None
  none_above [] h = refl
  none_above (r ∷ rows) h = at (f r) refl (none_above rows h.1) where
    apart : {a b : ℕ} → a < b → b ≡ a → ⊥
    apart lt e = omega arith

    at : (o : Option Row) → f r ≡ o → row_numbered n (filter_map f rows) ≡ None → row_numbered n (cons_option o (filter_map f rows)) ≡ None
    at None e rest = rest
    at (Some s) e rest = rw (ne_eqb s.number n (λ q. apart h.0 (sym (keeps r s e) ∙ q))) rest

  pub numbered_later : (rows : List Row) → AreRising (λ (r : Row). r.number) rows → row_numbered n (filter_map f rows) ≡ option_and_then f (row_numbered n rows)
  numbered_later [] up = refl
  numbered_later (r ∷ rows) up = at (eqb r.number n) refl (f r) refl (numbered_later rows up.1) where
    at : (b : Bool) → eqb r.number n ≡ b → (o : Option Row) → f r ≡ o → row_numbered n (filter_map f rows) ≡ option_and_then f (row_numbered n rows)
        → row_numbered n (cons_option o (filter_map f rows)) ≡ option_and_then f (cond b (Some r) (row_numbered n rows))
    at true e None g rest = none_above rows (subst (λ k. AllByRecursion (λ (y : Row). k < y.number) rows) (eqb_eq r.number n e) up.0) ∙ sym g
    at true e (Some s) g rest = rw (ap (λ k. eqb k n) (keeps r s g) ∙ e) (sym g)
    at false e None g rest = rest
    at false e (Some s) g rest = rw (ap (λ k. eqb k n) (keeps r s g) ∙ e) rest

pub found_later : (ds : List Recorded) (n : ℕ) (rows : List Row) → AreRising (λ (r : Row). r.number) rows → row_numbered n (rows_after ds rows) ≡ option_and_then (row_after ds) (row_numbered n rows)
found_later ds n rows up = ap (row_numbered n) (each_after ds rows) ∙ numbered_later (row_after ds) (λ r s is. (keys_after ds r s is).number) n rows up

pub same_unmarked : (ds : List Recorded) (r s : Row) → row_after ds r ≡ Some s → unmarked s ≡ unmarked r
same_unmarked ds r s is =
    let keys = keys_after ds r s is in
    (λ i. record { number = keys.number i; space = keys.space i; entry = keys.entry i; end = keys.end i; writer = None; readers = []; taker = None })

pub left_unmarked : (ds : List Recorded) (r : Row) → is_some (row_after ds r) ≡ true → Some (unmarked r) ≡ option_map unmarked (row_after ds r)
left_unmarked ds r is = at (row_after ds r) refl is where
  at : (o : Option Row) → row_after ds r ≡ o → is_some o ≡ true → Some (unmarked r) ≡ option_map unmarked o
  at None e k = absurd (cc)
  at (Some s) e k = ap Some (sym (same_unmarked ds r s e))

pub some_mapped : {A B : Type 0} (f : A → B) (o : Option A) → is_some (option_map f o) ≡ is_some o
some_mapped f None = refl
some_mapped f (Some x) = refl

pub any_numbered_later : (n : ℕ) (o : Option Row) (rows : List Row) → option_map unmarked o ≡ option_map unmarked (row_numbered n rows) → is_some o ≡ list_any (λ (r : Row). r.number == n) rows
any_numbered_later n o rows is = sym (some_mapped unmarked o) ∙ (ap is_some is ∙ (some_mapped unmarked (row_numbered n rows) ∙ any_is (λ (r : Row). r.number == n) rows))

-- What is found by number.
use Rattle.std.proofs.Common.{◌≡◌, ℕ, Bool, true, false, not, cond, ◌&&◌, ◌||◌, eqb, List, [], ◌∷◌, map, Option, Some, None, refl, ap, sym, ◌∙◌}
use Rattle.std.specs.Prelude.{filter, option_map, ◌==◌}
use Rattle.std.specs.List.{AllByRecursion, list_any, list_all}
use Rattle.std.specs.Option.{option_map_or}
use Rattle.std.proofs.lemmas.Bool.{not-true}
use Rattle.jsp_model.specs.declared.state.Row.{Row}
use Rattle.jsp_model.specs.Lookup.{is_caller, contains as has}
use Rattle.jsp_model.specs.Changes.{published, unread}
use Rattle.jsp_sight.specs.Rows.{is_of, is_held, settled, undone}
use Rattle.jsp_decided.specs.declared.recorded.Recorded.{Recorded}
use Rattle.jsp_decided.specs.declared.recorded.Recorded.TheVariants.{Decided, Reset}
use Rattle.jsp_decided.specs.Recording.{becomes, rows_after, is_of_other}
use Rattle.jsp_table.specs.Finding.{AreNumbered as AreRising}
use Rattle.jsp_table.specs.Places.{living}
use Rattle.jsp_keyed.proofs.Placed.{any_numbered, only_numbered}
use Rattle.jsp_index.specs.Numbered.{AreNumbered}
use Rattle.jsp_index.specs.Finding.{row_numbered}
use Rattle.jsp_index.proofs.Covering.{and_both, eqb_eq}
use Rattle.jsp_index.proofs.Holders.{settled_taker, undone_writer}
use Rattle.jsp_decided.specs.Decided.{row_after}
use Rattle.jsp_sight.specs.Rows.{unmarked}
use Rattle.jsp_decided.proofs.RowsAfter.{fate_keys, all_after, rising_after, some_row, filter_each}
use Rattle.jsp_decided.proofs.Marks.{keys_after}
use Rattle.jsp_decided.proofs.Flat.{passes_later, any_later}
use Rattle.jsp_decided.proofs.Ending.{held_before}

any_each : (p q : Row → Bool) → ((r : Row) → p r ≡ q r) → (rows : List Row) → list_any p rows ≡ list_any q rows
any_each p q same [] = refl
any_each p q same (r ∷ rows) = rw (same r) (ap (λ w. q r || w) (any_each p q same rows))

named_later : (p : Row → Bool) (n : ℕ) (ds : List Recorded) (r : Row) → passes_later (λ (r : Row). r.number == n && p r) ds r ≡ (r.number == n && passes_later p ds r)
named_later p n ds r = at (row_after ds r) refl where
  and_false : (b : Bool) → false ≡ (b && false)
  and_false true = refl
  and_false false = refl

  at : (o : Option Row) → row_after ds r ≡ o → option_map_or (λ (r : Row). r.number == n && p r) o false ≡ (r.number == n && option_map_or p o false)
  at None e = and_false (r.number == n)
  at (Some s) e = ap (λ k. k == n && p s) (keys_after ds r s e).number

-- whether the row of a number passes later
pub any_named_later : (p : Row → Bool) (n : ℕ) (ds : List Recorded) (rows : List Row) → AreRising (λ (r : Row). r.number) rows → (o : Option Row) → o ≡ row_numbered n rows → option_map_or (passes_later p ds) o false ≡ list_any (λ (r : Row). r.number == n && p r) (rows_after ds rows)
any_named_later p n ds rows up o is =
    any_numbered (λ (r : Row). r.number) n (passes_later p ds) rows up o is
    ∙ (sym (any_each (passes_later (λ (r : Row). r.number == n && p r) ds) (λ (r : Row). r.number == n && passes_later p ds r) (named_later p n ds) rows) ∙ sym (any_later (λ (r : Row). r.number == n && p r) ds rows))

-- the space of the one that is found
space_of_one : (o q : Option Row) → option_map unmarked o ≡ option_map unmarked q → map (λ (r : Row). r.space) (living (o ∷ [])) ≡ map (λ (r : Row). r.space) (living (q ∷ []))
space_of_one None None e = refl
space_of_one None (Some s) e = absurd (cc)
space_of_one (Some r) None e = absurd (cc)
space_of_one (Some r) (Some s) e = ap (λ k. k ∷ []) (ap (λ (r : Row). r.space) (some_row e)) where
  some_row : {a b : Row} → Some a ≡ Some b → a ≡ b
  some_row h = cc

pub spaces_later : (n : ℕ) (ds : List Recorded) (rows : List Row) (o : Option Row) → AreNumbered rows → option_map unmarked o ≡ option_map unmarked (row_numbered n (rows_after ds rows))
    → map (λ (r : Row). r.space) (living (o ∷ [])) ≡ map (λ (r : Row). r.space) (filter (λ (r : Row). r.number == n) (rows_after ds rows))
spaces_later n ds rows o up is =
    space_of_one o (row_numbered n (rows_after ds rows)) is ∙ ap (map (λ (r : Row). r.space)) (sym (only_numbered (λ (r : Row). r.number) n (rows_after ds rows) (rising_after ds rows up) (row_numbered n (rows_after ds rows)) refl))

-- ---- what a transaction holds

all_of : (q : Row → Bool) (rows : List Row) → list_all q rows ≡ true → AllByRecursion (λ r. q r ≡ true) rows
all_of q [] h = tt
all_of q (r ∷ rows) h = let parts = and_both (q r) (list_all q rows) h in (parts.0, all_of q rows parts.1)

of_all : (q : Row → Bool) (rows : List Row) → AllByRecursion (λ r. q r ≡ true) rows → list_all q rows ≡ true
of_all q [] h = refl
of_all q (r ∷ rows) h = rw h.0 (of_all q rows h.1)

module _ (x : ℕ) (space : Option ℕ) (ns : List ℕ) where
  abbrev pub is_named : Row → Bool
  is_named r = not (is_of space r && is_held x r) || has ns r.number

  less : (a b c : Bool) → (c ≡ true → b ≡ true) → (n m : Bool) → n ≡ m → (not (a && b) || n) ≡ true → (not (a && c) || m) ≡ true
  less a b false g n m e h = at a where
    at : (a : Bool) → (not (a && false) || m) ≡ true
    at true = refl
    at false = refl
  less a b true g n m e h = rw (← e) (ap (λ k. not (a && k) || n) (sym (g refl)) ∙ h)

  same_space : (space : Option ℕ) (r s : Row) → s.space ≡ r.space → is_of space s ≡ is_of space r
  same_space None r s e = refl
  same_space (Some k) r s e = ap (λ m. m == k) e

  keeps : (d : Recorded) (r s : Row) → becomes d r ≡ Some s → is_named r ≡ true → is_named s ≡ true
  keeps d r s is k =
      let keys = fate_keys d r s is in
      ap (λ b. not (b && is_held x s) || has ns s.number) (same_space space r s keys.space)
      ∙ less (is_of space r) (is_held x r) (is_held x s) (held_before x d r s is) (has ns r.number) (has ns s.number) (ap (has ns) (sym keys.number)) k

  pub held_later : (ds : List Recorded) (rows : List Row) → list_all is_named rows ≡ true → list_all is_named (rows_after ds rows) ≡ true
  held_later ds rows h = of_all is_named (rows_after ds rows) (all_after (λ r. is_named r ≡ true) keeps ds rows (all_of is_named rows h))

-- what its commit publishes, after the ends of others
module _ (x : ℕ) where
  unless : (m : Option ℕ) (y : ℕ) → eqb y x ≡ false → is_caller m y ≡ true → is_caller m x ≡ false
  unless None y ne is = absurd (cc)
  unless (Some k) y ne is = ap (λ n. eqb n x) (eqb_eq k y is) ∙ ne

  settled_writer : (y : ℕ) (r : Row) → eqb y x ≡ false → is_caller (settled y r).writer x ≡ is_caller r.writer x
  settled_writer y r ne = at (is_caller r.writer y) refl where
    at : (b : Bool) → is_caller r.writer y ≡ b → is_caller (unread y (cond b (record r { writer = None }) r)).writer x ≡ is_caller r.writer x
    at true e = sym (unless r.writer y ne e)
    at false e = refl

  undone_taker : (y : ℕ) (r : Row) → eqb y x ≡ false → is_caller (undone y r).taker x ≡ is_caller r.taker x
  undone_taker y r ne = at (is_caller r.taker y) refl where
    at : (b : Bool) → is_caller r.taker y ≡ b → is_caller (unread y (cond b (record r { taker = None }) r)).taker x ≡ is_caller r.taker x
    at true e = sym (unless r.taker y ne e)
    at false e = refl

  same_published : (d : Recorded) → is_of_other x d ≡ true → (r s : Row) → becomes d r ≡ Some s → (is_caller s.writer x && not (is_caller s.taker x)) ≡ (is_caller r.writer x && not (is_caller r.taker x))
  same_published (Reset space) other r s is = at (eqb r.space space) is where
    at : (b : Bool) → cond b None (Some r) ≡ Some s → (is_caller s.writer x && not (is_caller s.taker x)) ≡ (is_caller r.writer x && not (is_caller r.taker x))
    at true g = absurd (cc)
    at false g = ap (λ (r : Row). is_caller r.writer x && not (is_caller r.taker x)) (sym (some_row g))
  same_published (Decided d) other r s is = at (eqb r.space d.space) d.commits (is_caller r.taker d.transaction) (is_caller r.writer d.transaction) is where
    ne : eqb d.transaction x ≡ false
    ne = not-true (eqb d.transaction x) other

    both : {a b e f : Bool} → a ≡ b → e ≡ f → (a && not e) ≡ (b && not f)
    both p q = cc

    at : (b k t w : Bool) → cond b (cond k (cond t None (Some (settled d.transaction r))) (cond w None (Some (undone d.transaction r)))) (Some r) ≡ Some s → (is_caller s.writer x && not (is_caller s.taker x)) ≡ (is_caller r.writer x && not (is_caller r.taker x))
    at true true true w g = absurd (cc)
    at true true false w g = ap (λ (r : Row). is_caller r.writer x && not (is_caller r.taker x)) (sym (some_row g)) ∙ both (settled_writer d.transaction r ne) (ap (λ o. is_caller o x) (settled_taker d.transaction r))
    at true false t true g = absurd (cc)
    at true false t false g = ap (λ (r : Row). is_caller r.writer x && not (is_caller r.taker x)) (sym (some_row g)) ∙ both (ap (λ o. is_caller o x) (undone_writer d.transaction r)) (undone_taker d.transaction r ne)
    at false k t w g = ap (λ (r : Row). is_caller r.writer x && not (is_caller r.taker x)) (sym (some_row g))

  pub published_later : (ds : List Recorded) (rows : List Row) → list_all (is_of_other x) ds ≡ true → rows_after ds (published x rows) ≡ published x (rows_after ds rows)
  published_later ds rows others = filter_each (λ (r : Row). is_caller r.writer x && not (is_caller r.taker x)) (λ d. is_of_other x d ≡ true) same_published ds rows (all_others ds others) where
    all_others : (ds : List Recorded) → list_all (is_of_other x) ds ≡ true → AllByRecursion (λ (d : Recorded). is_of_other x d ≡ true) ds
    all_others [] h = tt
    all_others (d ∷ ds) h = let parts = and_both (is_of_other x d) (list_all (is_of_other x) ds) h in (parts.0, all_others ds parts.1)

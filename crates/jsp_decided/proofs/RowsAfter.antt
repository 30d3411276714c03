-- Rows after what is recorded, whatever this is.
use Rattle.std.proofs.Common.{◌≡◌, ◌≢◌, ℕ, zero, suc, ◌+◌, ◌<◌, Bool, true, false, not, cond, ◌&&◌, ◌||◌, eqb, List, [], ◌∷◌, ◌++◌, length, take, drop, get_or, map, Option, Some, None, option_and_then, refl, ap, sym, ◌∙◌, subst, arith}
use Rattle.std.specs.Prelude.{filter, position, option_map, ◌==◌}
use Rattle.std.specs.List.{AllByRecursion, filter_map, cons_option}
use Rattle.std.proofs.lemmas.Bool.{eq-eqb}
use Rattle.std.proofs.lemmas.List.{take_more, append-nil}
use Rattle.std.proofs.lemmas.List.Sums.{fold_push}
use Rattle.std.proofs.lemmas.List.Elements.{filter_map-append}
use Rattle.std.proofs.lemmas.List.Quantifiers.{position-Some}
use Rattle.jsp_model.specs.declared.state.Row.{Row}
use Rattle.jsp_model.specs.Lookup.{is_caller}
use Rattle.jsp_model.specs.Changes.{unread}
use Rattle.jsp_sight.specs.Rows.{settled, undone, row_ending}
use Rattle.jsp_sight.proofs.Unique.{none_fits, or_parts}
use Rattle.jsp_table.specs.Finding.{AreNumbered as AreRising}
use Rattle.jsp_table.proofs.Finding.{each}
use Rattle.jsp_decided.specs.declared.recorded.Recorded.{Recorded}
use Rattle.jsp_decided.specs.declared.recorded.Recorded.TheVariants.{Decided, Reset}
use Rattle.jsp_index.specs.Changing.{revised_by, HasSameKeys}
use Rattle.jsp_index.specs.Numbered.{AreNumbered}
use Rattle.jsp_sight.specs.Deciding.{committed_row, aborted_row}
use Rattle.jsp_decided.specs.Recording.{space_of, becomes, rows_after, covers}
use Rattle.jsp_index.proofs.Covering.{eqb_eq}
use Rattle.jsp_index.proofs.Revisions.{compose, eqb_same}
use Rattle.jsp_index.proofs.Holders.{settled_keys, undone_keys}
use Rattle.jsp_index.proofs.Fates.{all_stay}
use Rattle.jsp_decided.specs.Decided.{row_after, pending_in, without_first}

pub some_row : {a b : Row} → Some a ≡ Some b → a ≡ b
some_row e = cc

-- ---- what a row keeps

same_keys : (r : Row) → HasSameKeys r r
same_keys r = record { number = refl; space = refl; entry = refl; end = refl }

revised_keys : (gone : Row → Bool) (changed : Row → Row) → ((r : Row) → HasSameKeys r (changed r)) → (r s : Row) → revised_by gone changed r ≡ Some s → HasSameKeys r s
revised_keys gone changed keys r s is = at (gone r) is where
  at : (b : Bool) → cond b None (Some (changed r)) ≡ Some s → HasSameKeys r s
  at true g = absurd (cc)
  at false g = subst (HasSameKeys r) (some_row g) (keys r)

pub fate_keys : (d : Recorded) (r s : Row) → becomes d r ≡ Some s → HasSameKeys r s
fate_keys (Reset space) r s is = at (eqb r.space space) is where
  at : (b : Bool) → cond b None (Some r) ≡ Some s → HasSameKeys r s
  at true g = absurd (cc)
  at false g = subst (HasSameKeys r) (some_row g) (same_keys r)
fate_keys (Decided d) r s is = at (eqb r.space d.space) d.commits is where
  at : (b k : Bool) → cond b (cond k (committed_row d.transaction r) (aborted_row d.transaction r)) (Some r) ≡ Some s → HasSameKeys r s
  at true true g = revised_keys (λ (r : Row). is_caller r.taker d.transaction) (settled d.transaction) (settled_keys d.transaction) r s g
  at true false g = revised_keys (λ (r : Row). is_caller r.writer d.transaction) (undone d.transaction) (undone_keys d.transaction) r s g
  at false k g = subst (HasSameKeys r) (some_row g) (same_keys r)

pub elsewhere : (d : Recorded) (r : Row) → eqb r.space (space_of d) ≡ false → becomes d r ≡ Some r
elsewhere (Decided d) r e = ap (λ b. cond b (cond d.commits (committed_row d.transaction r) (aborted_row d.transaction r)) (Some r)) e
elsewhere (Reset space) r e = ap (λ b. cond b None (Some r)) e

pub uncovered : (d : Recorded) (ds : List Recorded) (s : ℕ) → covers (d ∷ ds) s ≡ false → (eqb s (space_of d) ≡ false) × (covers ds s ≡ false)
uncovered d ds s h = let parts = or_parts (eqb (space_of d) s) (covers ds s) h in (eqb_same s (space_of d) ∙ parts.0, parts.1)

-- ---- all rows

module _ (P : Row → Type 0) (keeps : (d : Recorded) (r s : Row) → becomes d r ≡ Some s → P r → P s) where
  all_once : (d : Recorded) (rows : List Row) → AllByRecursion P rows → AllByRecursion P (filter_map (becomes d) rows)
  all_once d [] h = tt
  all_once d (r ∷ rows) h = at (becomes d r) refl (all_once d rows h.1) where
    at : (o : Option Row) → becomes d r ≡ o → AllByRecursion P (filter_map (becomes d) rows) → AllByRecursion P (cons_option o (filter_map (becomes d) rows))
    at None e rest = rest
    at (Some s) e rest = (keeps d r s e h.0, rest)

  pub all_after : (ds : List Recorded) (rows : List Row) → AllByRecursion P rows → AllByRecursion P (rows_after ds rows)
  all_after [] rows h = h
  all_after (d ∷ ds) rows h = all_after ds (filter_map (becomes d) rows) (all_once d rows h)

pub one_more : (ds : List Recorded) (i : ℕ) (x : Recorded) (rows now : List Row) → i < length ds → now ≡ rows_after (take i ds) rows → filter_map (becomes (get_or ds i x)) now ≡ rows_after (take (i + 1) ds) rows
one_more ds i x rows now lt is =
    ap (filter_map (becomes (get_or ds i x))) is
    ∙ (sym (fold_push (λ rows d. filter_map (becomes d) rows) rows (take i ds) (get_or ds i x)) ∙ ap (λ ds. rows_after ds rows) (sym (take_more ds i x lt)))

-- rows that come later
pub append_after : (ds : List Recorded) (rows more : List Row) → rows_after ds (rows ++ more) ≡ rows_after ds rows ++ rows_after ds more
append_after [] rows more = refl
append_after (d ∷ ds) rows more = ap (rows_after ds) (filter_map-append (becomes d) rows more) ∙ append_after ds (filter_map (becomes d) rows) (filter_map (becomes d) more)

-- rows of spaces of which nothing is recorded stay as they are
pub stay_after : (ds : List Recorded) (rows : List Row) → AllByRecursion (λ (r : Row). covers ds r.space ≡ false) rows → rows_after ds rows ≡ rows
stay_after [] rows h = refl
stay_after (d ∷ ds) rows h =
    ap (rows_after ds) (all_stay (λ (r : Row). covers (d ∷ ds) r.space ≡ false) (becomes d) rows h (λ r k. elsewhere d r (uncovered d ds r.space k).0))
    ∙ stay_after ds rows (each (λ (r : Row). covers (d ∷ ds) r.space ≡ false) (λ (r : Row). covers ds r.space ≡ false) rows h (λ r k. (uncovered d ds r.space k).1))

-- ---- their numbers

module _ (d : Recorded) (more : List Row) where
  numbers_once : (Q : ℕ → Type 0) (rows : List Row) → AllByRecursion (λ (r : Row). Q r.number) (rows ++ more) → AllByRecursion (λ (r : Row). Q r.number) (filter_map (becomes d) rows ++ more)
  numbers_once Q [] h = h
  numbers_once Q (r ∷ rows) h = at (becomes d r) refl (numbers_once Q rows h.1) where
    at : (o : Option Row) → becomes d r ≡ o → AllByRecursion (λ (r : Row). Q r.number) (filter_map (becomes d) rows ++ more) → AllByRecursion (λ (r : Row). Q r.number) (cons_option o (filter_map (becomes d) rows) ++ more)
    at None e rest = rest
    at (Some s) e rest = (subst Q (sym (fate_keys d r s e).number) h.0, rest)

  rising_once : (rows : List Row) → AreRising (λ (r : Row). r.number) (rows ++ more) → AreRising (λ (r : Row). r.number) (filter_map (becomes d) rows ++ more)
  rising_once [] h = h
  rising_once (r ∷ rows) h = at (becomes d r) refl (rising_once rows h.1) where
    at : (o : Option Row) → becomes d r ≡ o → AreRising (λ (r : Row). r.number) (filter_map (becomes d) rows ++ more) → AreRising (λ (r : Row). r.number) (cons_option o (filter_map (becomes d) rows) ++ more)
    at None e rest = rest
    at (Some s) e rest = (subst (λ n. AllByRecursion (λ (y : Row). n < y.number) (filter_map (becomes d) rows ++ more)) (sym (fate_keys d r s e).number) (numbers_once (λ m. r.number < m) rows h.0), rest)

pub numbered_after : (ds : List Recorded) (rows more : List Row) → AreNumbered (rows ++ more) → AreNumbered (rows_after ds rows ++ more)
numbered_after [] rows more h = h
numbered_after (d ∷ ds) rows more h = numbered_after ds (filter_map (becomes d) rows) more (record { positive = numbers_once d more (λ n. 0 < n) rows h.positive; rising = rising_once d more rows h.rising })

-- ---- rows that are left out

module _ (p : Row → Bool) (same : (d : Recorded) (r s : Row) → becomes d r ≡ Some s → p s ≡ p r) where
  filter_once : (d : Recorded) (rows : List Row) → filter_map (becomes d) (filter p rows) ≡ filter p (filter_map (becomes d) rows)
  filter_once d [] = refl
  filter_once d (r ∷ rows) = at (p r) refl (becomes d r) refl (filter_once d rows) where
    at : (b : Bool) → p r ≡ b → (o : Option Row) → becomes d r ≡ o → filter_map (becomes d) (filter p rows) ≡ filter p (filter_map (becomes d) rows)
        → filter_map (becomes d) (cond b (r ∷ filter p rows) (filter p rows)) ≡ filter p (cons_option o (filter_map (becomes d) rows))
    at true e None f rest = ap (λ o. cons_option o (filter_map (becomes d) (filter p rows))) f ∙ rest
    at true e (Some s) f rest = ap (λ o. cons_option o (filter_map (becomes d) (filter p rows))) f ∙ (rw (same d r s f ∙ e) (ap (λ w. s ∷ w) rest))
    at false e None f rest = rest
    at false e (Some s) f rest = rw (same d r s f ∙ e) rest

  pub filter_after : (ds : List Recorded) (rows : List Row) → rows_after ds (filter p rows) ≡ filter p (rows_after ds rows)
  filter_after [] rows = refl
  filter_after (d ∷ ds) rows = ap (rows_after ds) (filter_once d rows) ∙ filter_after ds (filter_map (becomes d) rows)

-- ---- rows that are left out, after records of which each leaves the test as it is

module _ (p : Row → Bool) (Ok : Recorded → Type 0) (same : (d : Recorded) → Ok d → (r s : Row) → becomes d r ≡ Some s → p s ≡ p r) where
  filter_one : (d : Recorded) → Ok d → (rows : List Row) → filter_map (becomes d) (filter p rows) ≡ filter p (filter_map (becomes d) rows)
  filter_one d ok [] = refl
  filter_one d ok (r ∷ rows) = at (p r) refl (becomes d r) refl (filter_one d ok rows) where
    at : (b : Bool) → p r ≡ b → (o : Option Row) → becomes d r ≡ o → filter_map (becomes d) (filter p rows) ≡ filter p (filter_map (becomes d) rows)
        → filter_map (becomes d) (cond b (r ∷ filter p rows) (filter p rows)) ≡ filter p (cons_option o (filter_map (becomes d) rows))
    at true e None f rest = ap (λ o. cons_option o (filter_map (becomes d) (filter p rows))) f ∙ rest
    at true e (Some s) f rest = ap (λ o. cons_option o (filter_map (becomes d) (filter p rows))) f ∙ (rw (same d ok r s f ∙ e) (ap (λ w. s ∷ w) rest))
    at false e None f rest = rest
    at false e (Some s) f rest = rw (same d ok r s f ∙ e) rest

  pub filter_each : (ds : List Recorded) (rows : List Row) → AllByRecursion Ok ds → rows_after ds (filter p rows) ≡ filter p (rows_after ds rows)
  filter_each [] rows h = refl
  filter_each (d ∷ ds) rows h = ap (rows_after ds) (filter_one d h.0 rows) ∙ filter_each ds (filter_map (becomes d) rows) h.1

-- ---- rows that change

module _ (f : Row → Row) (same : (d : Recorded) (r : Row) → becomes d (f r) ≡ option_map f (becomes d r)) where
  every_once : (d : Recorded) (rows : List Row) → filter_map (becomes d) (map f rows) ≡ map f (filter_map (becomes d) rows)
  every_once d [] = refl
  every_once d (r ∷ rows) = ap (λ o. cons_option o (filter_map (becomes d) (map f rows))) (same d r) ∙ at (becomes d r) (every_once d rows) where
    at : (o : Option Row) → filter_map (becomes d) (map f rows) ≡ map f (filter_map (becomes d) rows) → cons_option (option_map f o) (filter_map (becomes d) (map f rows)) ≡ map f (cons_option o (filter_map (becomes d) rows))
    at None rest = rest
    at (Some s) rest = ap (λ w. f s ∷ w) rest

  pub every_after : (ds : List Recorded) (rows : List Row) → rows_after ds (map f rows) ≡ map f (rows_after ds rows)
  every_after [] rows = refl
  every_after (d ∷ ds) rows = ap (rows_after ds) (every_once d rows) ∙ every_after ds (filter_map (becomes d) rows)

-- an end
ended_fate : (e : ℕ) (d : Recorded) (r : Row) → becomes d (record r { end = e }) ≡ option_map (λ (s : Row). record s { end = e }) (becomes d r)
ended_fate e (Reset space) r = at (eqb r.space space) where
  at : (b : Bool) → cond b None (Some (record r { end = e })) ≡ option_map (λ (s : Row). record s { end = e }) (cond b None (Some r))
  at true = refl
  at false = refl
ended_fate e (Decided d) r = at (eqb r.space d.space) d.commits (is_caller r.taker d.transaction) (is_caller r.writer d.transaction) where
  before : Row
  before = record r { end = e }

  at : (b k t w : Bool) → cond b (cond k (cond t None (Some (unread d.transaction (cond w (record before { writer = None }) before)))) (cond w None (Some (unread d.transaction (cond t (record before { taker = None }) before))))) (Some before)
      ≡ option_map (λ (s : Row). record s { end = e }) (cond b (cond k (cond t None (Some (unread d.transaction (cond w (record r { writer = None }) r)))) (cond w None (Some (unread d.transaction (cond t (record r { taker = None }) r))))) (Some r))
  at true true true w = refl
  at true true false true = refl
  at true true false false = refl
  at true false t true = refl
  at true false true false = refl
  at true false false false = refl
  at false k t w = refl

ending_fate : (n e : ℕ) (d : Recorded) (r : Row) → becomes d (row_ending n e r) ≡ option_map (row_ending n e) (becomes d r)
ending_fate n e d r = at (eqb r.number n) refl where
  here : (o : Option Row) → becomes d r ≡ o → eqb r.number n ≡ true → option_map (λ (s : Row). record s { end = e }) o ≡ option_map (row_ending n e) o
  here None g is = refl
  here (Some s) g is = rw (ap (λ m. eqb m n) (fate_keys d r s g).number ∙ is) refl

  other : (o : Option Row) → becomes d r ≡ o → eqb r.number n ≡ false → o ≡ option_map (row_ending n e) o
  other None g is = refl
  other (Some s) g is = rw (ap (λ m. eqb m n) (fate_keys d r s g).number ∙ is) refl

  at : (b : Bool) → eqb r.number n ≡ b → becomes d (cond b (record r { end = e }) r) ≡ option_map (row_ending n e) (becomes d r)
  at true is = ended_fate e d r ∙ here (becomes d r) refl is
  at false is = other (becomes d r) refl is

pub ending_after : (n e : ℕ) (ds : List Recorded) (rows : List Row) → rows_after ds (map (row_ending n e) rows) ≡ map (row_ending n e) (rows_after ds rows)
ending_after n e ds rows = every_after (row_ending n e) (ending_fate n e) ds rows

-- those that pass change, and none of these is of a space of which something is recorded
module _ (p : Row → Bool) (f : Row → Row) (same : (d : Recorded) (r s : Row) → becomes d r ≡ Some s → p s ≡ p r) (space : (r : Row) → (f r).space ≡ r.space) where
  abbrev change : Row → Row
  change r = cond (p r) (f r) r

  some_once : (d : Recorded) (rows : List Row) → AllByRecursion (λ (r : Row). p r ≡ true → eqb r.space (space_of d) ≡ false) rows → filter_map (becomes d) (map change rows) ≡ map change (filter_map (becomes d) rows)
  some_once d [] h = refl
  some_once d (r ∷ rows) h = at (p r) refl (becomes d r) refl (some_once d rows h.1) where
    at : (b : Bool) → p r ≡ b → (o : Option Row) → becomes d r ≡ o → filter_map (becomes d) (map change rows) ≡ map change (filter_map (becomes d) rows)
        → cons_option (becomes d (cond b (f r) r)) (filter_map (becomes d) (map change rows)) ≡ map change (cons_option o (filter_map (becomes d) rows))
    at true e o g rest =
        let apart = h.0 e in
        let here : o ≡ Some r = sym g ∙ elsewhere d r apart in
        ap (λ o. cons_option o (filter_map (becomes d) (map change rows))) (elsewhere d (f r) (ap (λ s. eqb s (space_of d)) (space r) ∙ apart))
        ∙ (rw here (rw e (ap (λ w. f r ∷ w) rest)))
    at false e None g rest = ap (λ o. cons_option o (filter_map (becomes d) (map change rows))) g ∙ rest
    at false e (Some s) g rest = ap (λ o. cons_option o (filter_map (becomes d) (map change rows))) g ∙ (rw (same d r s g ∙ e) (ap (λ w. s ∷ w) rest))

  pub some_after : (ds : List Recorded) (rows : List Row) → AllByRecursion (λ (r : Row). p r ≡ true → covers ds r.space ≡ false) rows → rows_after ds (map change rows) ≡ map change (rows_after ds rows)
  some_after [] rows h = refl
  some_after (d ∷ ds) rows h =
      ap (rows_after ds) (some_once d rows (each (λ (r : Row). p r ≡ true → covers (d ∷ ds) r.space ≡ false) (λ (r : Row). p r ≡ true → eqb r.space (space_of d) ≡ false) rows h (λ r k is. (uncovered d ds r.space (k is)).0)))
      ∙ some_after ds (filter_map (becomes d) rows) (all_once (λ (r : Row). p r ≡ true → covers ds r.space ≡ false) (λ d r s is k e. ap (covers ds) (fate_keys d r s is).space ∙ k (sym (same d r s is) ∙ e)) d rows
      (each (λ (r : Row). p r ≡ true → covers (d ∷ ds) r.space ≡ false) (λ (r : Row). p r ≡ true → covers ds r.space ≡ false) rows h (λ r k is. (uncovered d ds r.space (k is)).1)))

-- ---- a space of which nothing is recorded

module _ (p : Row → Bool) (space : ℕ) (within : (r : Row) → p r ≡ true → r.space ≡ space) where
  outside : (r : Row) → eqb r.space space ≡ false → p r ≡ false
  outside r ne = at (p r) refl where
    at : (b : Bool) → p r ≡ b → p r ≡ false
    at true e = absurd (cc (eq-eqb r.space space (within r e), ne))
    at false e = e

  seen_once : (d : Recorded) (rows : List Row) → eqb space (space_of d) ≡ false → filter p (filter_map (becomes d) rows) ≡ filter p rows
  seen_once d [] ne = refl
  seen_once d (r ∷ rows) ne = at (eqb r.space (space_of d)) refl (becomes d r) refl (seen_once d rows ne) where
    at : (b : Bool) → eqb r.space (space_of d) ≡ b → (o : Option Row) → becomes d r ≡ o → filter p (filter_map (becomes d) rows) ≡ filter p rows → filter p (cons_option o (filter_map (becomes d) rows)) ≡ filter p (r ∷ rows)
    at false e o g rest = rw (sym g ∙ elsewhere d r e) (ap (λ w. cond (p r) (r ∷ w) w) rest)
    at true e o g rest = left o g ∙ (rw (outside r apart) rest) where
      apart : eqb r.space space ≡ false
      apart = ap (λ s. eqb s space) (eqb_eq r.space (space_of d) e) ∙ (eqb_same (space_of d) space ∙ ne)

      left : (o : Option Row) → becomes d r ≡ o → filter p (cons_option o (filter_map (becomes d) rows)) ≡ filter p (filter_map (becomes d) rows)
      left None g = refl
      left (Some s) g = rw (outside s (ap (λ k. eqb k space) (fate_keys d r s g).space ∙ apart)) refl

  pub seen_after : (ds : List Recorded) (rows : List Row) → covers ds space ≡ false → filter p (rows_after ds rows) ≡ filter p rows
  seen_after [] rows none = refl
  seen_after (d ∷ ds) rows none = let parts = uncovered d ds space none in seen_after ds (filter_map (becomes d) rows) parts.1 ∙ seen_once d rows parts.0

-- ---- the first record of a space

-- records of two spaces
two_spaces : (d e : Recorded) (rows : List Row) → eqb (space_of d) (space_of e) ≡ false → filter_map (becomes d) (filter_map (becomes e) rows) ≡ filter_map (becomes e) (filter_map (becomes d) rows)
two_spaces d e rows ne =
    compose (becomes e) (becomes d) (λ r. option_and_then (becomes d) (becomes e r)) rows (λ r. refl)
    ∙ sym (compose (becomes d) (becomes e) (λ r. option_and_then (becomes d) (becomes e r)) rows (λ r. at r (eqb r.space (space_of e)) refl)) where
      none_and : (o : Option Row) → option_and_then (λ (r : Row). Some r) o ≡ o
      none_and None = refl
      none_and (Some r) = refl

      stays : (r : Row) (o : Option Row) → becomes e r ≡ o → eqb r.space (space_of e) ≡ true → option_and_then (becomes d) o ≡ o
      stays r None g here = refl
      stays r (Some s) g here = elsewhere d s (ap (λ k. eqb k (space_of d)) ((fate_keys e r s g).space ∙ eqb_eq r.space (space_of e) here) ∙ (eqb_same (space_of e) (space_of d) ∙ ne))

      other : (r : Row) (o : Option Row) → becomes d r ≡ o → eqb r.space (space_of e) ≡ false → option_and_then (becomes e) o ≡ o
      other r None g away = refl
      other r (Some s) g away = elsewhere e s (ap (λ k. eqb k (space_of e)) (fate_keys d r s g).space ∙ away)

      at : (r : Row) (b : Bool) → eqb r.space (space_of e) ≡ b → option_and_then (becomes e) (becomes d r) ≡ option_and_then (becomes d) (becomes e r)
      at r true here =
          let apart : eqb r.space (space_of d) ≡ false = ap (λ k. eqb k (space_of d)) (eqb_eq r.space (space_of e) here) ∙ (eqb_same (space_of e) (space_of d) ∙ ne) in
          ap (option_and_then (becomes e)) (elsewhere d r apart) ∙ sym (stays r (becomes e r) refl here)
      at r false away = other r (becomes d r) refl away ∙ sym (ap (option_and_then (becomes d)) (elsewhere e r away))

abbrev pub is_about : ℕ → Recorded → Bool
is_about space d = (space_of d) == space

first_in : (space : ℕ) (ds : List Recorded) (i : ℕ) (x : Recorded) (rows : List Row) → i < length ds → eqb (space_of (get_or ds i x)) space ≡ true → ((k : ℕ) → k < i → eqb (space_of (get_or ds k x)) space ≡ false)
    → rows_after (take i ds ++ drop (suc i) ds) (filter_map (becomes (get_or ds i x)) rows) ≡ rows_after ds rows
first_in space [] i x rows lt is before = absurd (omega arith)
first_in space (d ∷ ds) zero x rows lt is before = refl
first_in space (d ∷ ds) (suc i) x rows lt is before =
    let here : eqb (space_of d) space ≡ false = before 0 (omega arith) in
    let apart : eqb (space_of d) (space_of (get_or ds i x)) ≡ false = ap (eqb (space_of d)) (eqb_eq (space_of (get_or ds i x)) space is) ∙ here in
    ap (rows_after (take i ds ++ drop (suc i) ds)) (two_spaces d (get_or ds i x) rows apart) ∙ first_in space ds i x (filter_map (becomes d) rows) (omega arith) is (λ k less. before (suc k) (omega arith))

without_in : (space : ℕ) (ds : List Recorded) (i : ℕ) (x : Recorded) → i < length ds → eqb (space_of (get_or ds i x)) space ≡ true → ((k : ℕ) → k < i → eqb (space_of (get_or ds k x)) space ≡ false) → take i ds ++ drop (suc i) ds ≡ without_first space ds
without_in space [] i x lt is before = absurd (omega arith)
without_in space (d ∷ ds) zero x lt is before = rw is refl
without_in space (d ∷ ds) (suc i) x lt is before =
    let here : eqb (space_of d) space ≡ false = before 0 (omega arith) in
    rw here (ap (λ w. d ∷ w) (without_in space ds i x (omega arith) is (λ k less. before (suc k) (omega arith))))

pub first_applied : (space : ℕ) (ds : List Recorded) (i : ℕ) (x : Recorded) (rows : List Row) → position (is_about space) ds ≡ Some i → rows_after (take i ds ++ drop (suc i) ds) (filter_map (becomes (get_or ds i x)) rows) ≡ rows_after ds rows
first_applied space ds i x rows found = let p = position-Some (is_about space) ds i x found in first_in space ds i x rows p.0 p.1 p.2

pub first_left_out : (space : ℕ) (ds : List Recorded) (i : ℕ) (x : Recorded) → position (is_about space) ds ≡ Some i → take i ds ++ drop (suc i) ds ≡ without_first space ds
first_left_out space ds i x found = let p = position-Some (is_about space) ds i x found in without_in space ds i x p.0 p.1 p.2

pub none_left_out : (space : ℕ) (ds : List Recorded) → position (is_about space) ds ≡ None → ds ≡ without_first space ds
none_left_out space ds none = absent ds (none_fits (is_about space) ds none) where
  absent : (ds : List Recorded) → covers ds space ≡ false → ds ≡ without_first space ds
  absent [] h = refl
  absent (d ∷ ds) h = let parts = or_parts (eqb (space_of d) space) (covers ds space) h in rw parts.0 (ap (λ w. d ∷ w) (absent ds parts.1))

-- ---- rows of spaces of which nothing is recorded

uncovered_passing : (p : Row → Bool) (ds : List Recorded) (rows : List Row) → AllByRecursion (λ (r : Row). p r ≡ true → covers ds r.space ≡ false) rows → AllByRecursion (λ (r : Row). covers ds r.space ≡ false) (filter p rows)
uncovered_passing p ds [] h = tt
uncovered_passing p ds (r ∷ rows) h = at (p r) refl (uncovered_passing p ds rows h.1) where
  at : (b : Bool) → p r ≡ b → AllByRecursion (λ (r : Row). covers ds r.space ≡ false) (filter p rows) → AllByRecursion (λ (r : Row). covers ds r.space ≡ false) (cond b (r ∷ filter p rows) (filter p rows))
  at true e rest = (h.0 e, rest)
  at false e rest = rest

pub spared_passing : (p : Row → Bool) → ((d : Recorded) (r s : Row) → becomes d r ≡ Some s → p s ≡ p r) → (ds : List Recorded) (rows : List Row) → AllByRecursion (λ (r : Row). p r ≡ true → covers ds r.space ≡ false) rows → filter p rows ≡ filter p (rows_after ds rows)
spared_passing p same ds rows h = sym (stay_after ds (filter p rows) (uncovered_passing p ds rows h)) ∙ filter_after p same ds rows

-- ---- they rise still

pub rising_after : (ds : List Recorded) (rows : List Row) → AreNumbered rows → AreRising (λ (r : Row). r.number) (rows_after ds rows)
rising_after ds rows up = (subst AreNumbered (append-nil (rows_after ds rows)) (numbered_after ds rows [] (subst AreNumbered (sym (append-nil rows)) up))).rising

-- one is left out where there is one
pub one_fewer : (space : ℕ) (ds left : List Recorded) → covers ds space ≡ true → left ≡ without_first space ds → length left < length ds
one_fewer space ds left some is = rw is (at ds some) where
  less : (n m : ℕ) → n < m → suc n < suc m
  less n m h = omega arith

  last : (n : ℕ) → n < suc n
  last n = omega arith

  at : (ds : List Recorded) → covers ds space ≡ true → length (without_first space ds) < length ds
  at [] some = absurd (cc)
  at (d ∷ ds) some = here (eqb (space_of d) space) some (at ds) where
    here : (b : Bool) → (b || covers ds space) ≡ true → (covers ds space ≡ true → length (without_first space ds) < length ds) → length (cond b ds (d ∷ without_first space ds)) < length (d ∷ ds)
    here true k rest = last (length ds)
    here false k rest = less (length (without_first space ds)) (length ds) (rest k)

-- ---- a space has applied all

abbrev pub is_elsewhere : ℕ → Recorded → Bool
is_elsewhere space d = not ((space_of d) == space)

pub others_stay : (space : ℕ) (ds : List Recorded) → filter (is_elsewhere space) (without_first space ds) ≡ filter (is_elsewhere space) ds
others_stay space [] = refl
others_stay space (d ∷ ds) = at (eqb (space_of d) space) refl (others_stay space ds) where
  at : (b : Bool) → eqb (space_of d) space ≡ b → filter (is_elsewhere space) (without_first space ds) ≡ filter (is_elsewhere space) ds → filter (is_elsewhere space) (cond b ds (d ∷ without_first space ds)) ≡ filter (is_elsewhere space) (d ∷ ds)
  at true e rest = rw e refl
  at false e rest = rw e (ap (λ w. d ∷ w) rest)

pub all_elsewhere : (space : ℕ) (ds : List Recorded) → covers ds space ≡ false → ds ≡ filter (is_elsewhere space) ds
all_elsewhere space [] none = refl
all_elsewhere space (d ∷ ds) none = let parts = or_parts (eqb (space_of d) space) (covers ds space) none in rw parts.0 (ap (λ w. d ∷ w) (all_elsewhere space ds parts.1))

no_more : (space : ℕ) (ds : List Recorded) → length (filter (is_elsewhere space) ds) < suc (length ds)
no_more space [] = omega arith
no_more space (d ∷ ds) = at (not ((space_of d) == space)) (no_more space ds) where
  at : (b : Bool) → length (filter (is_elsewhere space) ds) < suc (length ds) → length (cond b (d ∷ filter (is_elsewhere space) ds) (filter (is_elsewhere space) ds)) < suc (suc (length ds))
  at true rest = omega (arith, rest)
  at false rest = omega (arith, rest)

pub others_fewer : (space : ℕ) (ds left : List Recorded) → covers ds space ≡ true → left ≡ filter (is_elsewhere space) ds → length left < length ds
others_fewer space ds left some is = rw is (fewer ds some) where
  fewer : (ds : List Recorded) → covers ds space ≡ true → length (filter (is_elsewhere space) ds) < length ds
  fewer [] some = absurd (cc)
  fewer (d ∷ ds) some = at (eqb (space_of d) space) some (fewer ds) where
    at : (b : Bool) → (b || covers ds space) ≡ true → (covers ds space ≡ true → length (filter (is_elsewhere space) ds) < length ds) → length (cond (not b) (d ∷ filter (is_elsewhere space) ds) (filter (is_elsewhere space) ds)) < suc (length ds)
    at true k rest = no_more space ds
    at false k rest = let less = rest k in omega (arith, less)

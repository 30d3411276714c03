-- A transaction that ends, in each space where it holds rows.
use Rattle.std.proofs.Common.{◌≡◌, ℕ, Bool, true, false, not, cond, ◌&&◌, ◌||◌, eqb, List, [], ◌∷◌, ◌++◌, map, Option, Some, None, option_and_then, refl, ap, sym, ◌∙◌, subst, inl, inr}
use Rattle.std.specs.Prelude.{filter, ◌==◌}
use Rattle.std.specs.List.{AllByRecursion, filter_map, cons_option}
use Rattle.std.proofs.lemmas.List.Sums.{fold-append}
use Rattle.jsp_model.specs.declared.state.Row.{Row}
use Rattle.jsp_model.specs.Lookup.{is_caller, contains as has}
use Rattle.jsp_model.specs.Changes.{aborted, committed, unread}
use Rattle.jsp_sight.specs.Rows.{settled, undone, is_held}
use Rattle.jsp_sight.proofs.Unique.{or_parts}
use Rattle.jsp_table.proofs.Rising.{or_cases}
use Rattle.jsp_sight.specs.declared.deciding.Decision.{Decision}
use Rattle.jsp_index.specs.Changing.{revised_by, IsOnce}
use Rattle.jsp_sight.specs.Deciding.{fate, committed_row, aborted_row, rows_after as rows_decided, covers}
use Rattle.jsp_decided.specs.declared.recorded.Recorded.{Recorded}
use Rattle.jsp_decided.specs.declared.recorded.Recorded.TheVariants.{Decided, Reset}
use Rattle.jsp_decided.specs.Recording.{becomes, rows_after}
use Rattle.jsp_index.specs.Ending.{EndsAll}
use Rattle.jsp_index.proofs.Revisions.{compose, eqb_same}
use Rattle.jsp_index.proofs.Holders.{committed_is, aborted_is, settled_once, undone_once}
use Rattle.jsp_decided.proofs.RowsAfter.{fate_keys, all_after, some_row}

-- ---- a row that no transaction holds more than before

has_filtered : (q : ℕ → Bool) (ys : List ℕ) (x : ℕ) → has (filter q ys) x ≡ true → has ys x ≡ true
has_filtered q [] x h = h
has_filtered q (y ∷ ys) x h = at (q y) h (has_filtered q ys x) where
  at : (b : Bool) → has (cond b (y ∷ filter q ys) (filter q ys)) x ≡ true → (has (filter q ys) x ≡ true → has ys x ≡ true) → (eqb y x || has ys x) ≡ true
  at true g rest = first (eqb y x) g where
    first : (c : Bool) → (c || has (filter q ys) x) ≡ true → (c || has ys x) ≡ true
    first true k = refl
    first false k = rest k
  at false g rest = second (eqb y x) (rest g) where
    second : (c : Bool) → has ys x ≡ true → (c || has ys x) ≡ true
    second true k = refl
    second false k = k

any_left : (a b c p q r : Bool) → (p ≡ true → a ≡ true) → (q ≡ true → b ≡ true) → (r ≡ true → c ≡ true) → (p || q || r) ≡ true → (a || b || c) ≡ true
any_left a b c true q r f g h is = rw (f refl) refl
any_left a b c false true r f g h is = rw (g refl) (at a) where
  at : (a : Bool) → (a || true || c) ≡ true
  at true = refl
  at false = refl
any_left a b c false false true f g h is = rw (h refl) (at (a || b)) where
  at : (k : Bool) → (k || true) ≡ true
  at true = refl
  at false = refl
any_left a b c false false false f g h is = absurd (cc)

none_called : (x : ℕ) → is_caller None x ≡ true → Unit {0}
none_called x h = tt

settled_before : (y x : ℕ) (r : Row) → is_held x (settled y r) ≡ true → is_held x r ≡ true
settled_before y x r = at (is_caller r.writer y) where
  at : (b : Bool) → is_held x (unread y (cond b (record r { writer = None }) r)) ≡ true → is_held x r ≡ true
  at true h = any_left (is_caller r.writer x) (is_caller r.taker x) (has r.readers x) false (is_caller r.taker x) (has (filter (λ z. not (eqb z y)) r.readers) x) (λ e. absurd (cc)) (λ e. e) (has_filtered (λ z. not (eqb z y)) r.readers x) h
  at false h = any_left (is_caller r.writer x) (is_caller r.taker x) (has r.readers x) (is_caller r.writer x) (is_caller r.taker x) (has (filter (λ z. not (eqb z y)) r.readers) x) (λ e. e) (λ e. e) (has_filtered (λ z. not (eqb z y)) r.readers x) h

undone_before : (y x : ℕ) (r : Row) → is_held x (undone y r) ≡ true → is_held x r ≡ true
undone_before y x r = at (is_caller r.taker y) where
  at : (b : Bool) → is_held x (unread y (cond b (record r { taker = None }) r)) ≡ true → is_held x r ≡ true
  at true h = any_left (is_caller r.writer x) (is_caller r.taker x) (has r.readers x) (is_caller r.writer x) false (has (filter (λ z. not (eqb z y)) r.readers) x) (λ e. e) (λ e. absurd (cc)) (has_filtered (λ z. not (eqb z y)) r.readers x) h
  at false h = any_left (is_caller r.writer x) (is_caller r.taker x) (has r.readers x) (is_caller r.writer x) (is_caller r.taker x) (has (filter (λ z. not (eqb z y)) r.readers) x) (λ e. e) (λ e. e) (has_filtered (λ z. not (eqb z y)) r.readers x) h

revised_before : (x : ℕ) (gone : Row → Bool) (changed : Row → Row) → ((r : Row) → is_held x (changed r) ≡ true → is_held x r ≡ true) → (r s : Row) → revised_by gone changed r ≡ Some s → is_held x s ≡ true → is_held x r ≡ true
revised_before x gone changed before r s is held = at (gone r) is where
  at : (b : Bool) → cond b None (Some (changed r)) ≡ Some s → is_held x r ≡ true
  at true g = absurd (cc)
  at false g = before r (ap (is_held x) (some_row g) ∙ held)

pub held_before : (x : ℕ) (d : Recorded) (r s : Row) → becomes d r ≡ Some s → is_held x s ≡ true → is_held x r ≡ true
held_before x (Reset space) r s is held = at (eqb r.space space) is where
  at : (b : Bool) → cond b None (Some r) ≡ Some s → is_held x r ≡ true
  at true g = absurd (cc)
  at false g = ap (is_held x) (some_row g) ∙ held
held_before x (Decided d) r s is held = at (eqb r.space d.space) d.commits is where
  at : (b k : Bool) → cond b (cond k (committed_row d.transaction r) (aborted_row d.transaction r)) (Some r) ≡ Some s → is_held x r ≡ true
  at true true g = revised_before x (λ (r : Row). is_caller r.taker d.transaction) (settled d.transaction) (settled_before d.transaction x) r s g held
  at true false g = revised_before x (λ (r : Row). is_caller r.writer d.transaction) (undone d.transaction) (undone_before d.transaction x) r s g held
  at false k g = ap (is_held x) (some_row g) ∙ held

-- ---- a row that the transaction doesn't hold

unread_not : (x : ℕ) (ys : List ℕ) → has ys x ≡ false → filter (λ y. not (eqb y x)) ys ≡ ys
unread_not x [] h = refl
unread_not x (y ∷ ys) h = let parts = or_parts (eqb y x) (has ys x) h in rw parts.0 (ap (λ w. y ∷ w) (unread_not x ys parts.1))

unheld_commits : (x : ℕ) (r : Row) → is_held x r ≡ false → committed_row x r ≡ Some r
unheld_commits x r none =
    let one = or_parts (is_caller r.writer x || is_caller r.taker x) (has r.readers x) none in
    let two = or_parts (is_caller r.writer x) (is_caller r.taker x) one.0 in
    rw (two.1, two.0) (ap (λ (w : List ℕ). Some (record r { readers = w })) (unread_not x r.readers one.1))

unheld_aborts : (x : ℕ) (r : Row) → is_held x r ≡ false → aborted_row x r ≡ Some r
unheld_aborts x r none =
    let one = or_parts (is_caller r.writer x || is_caller r.taker x) (has r.readers x) none in
    let two = or_parts (is_caller r.writer x) (is_caller r.taker x) one.0 in
    rw (two.0, two.1) (ap (λ (w : List ℕ). Some (record r { readers = w })) (unread_not x r.readers one.1))

-- ---- one decision for each of several spaces

module _ (x : ℕ) (commits : Bool) (f : Row → Option Row) (once : IsOnce f) (is_f : (r : Row) → cond commits (committed_row x r) (aborted_row x r) ≡ f r) where
  abbrev in_covered : List Decision → Row → Option Row
  in_covered ds r = cond (covers ds r.space) (f r) (Some r)

  abbrev Alike : List Decision → Type 0
  Alike ds = AllByRecursion (λ (d : Decision). (d.transaction ≡ x) × (d.commits ≡ commits)) ds

  none_covered : (rows : List Row) → rows ≡ filter_map (in_covered []) rows
  none_covered [] = refl
  none_covered (r ∷ rows) = ap (λ w. r ∷ w) (none_covered rows)

  one_fate : (d : Decision) (r : Row) → (d.transaction ≡ x) × (d.commits ≡ commits) → fate d r ≡ cond (eqb r.space d.space) (f r) (Some r)
  one_fate d r alike =
      ap (λ y. cond (eqb r.space d.space) (cond d.commits (committed_row y r) (aborted_row y r)) (Some r)) alike.0
      ∙ (ap (λ k. cond (eqb r.space d.space) (cond k (committed_row x r) (aborted_row x r)) (Some r)) alike.1 ∙ ap (λ o. cond (eqb r.space d.space) o (Some r)) (is_f r))

  all_covered : (ds : List Decision) (rows : List Row) → Alike ds → rows_decided ds rows ≡ filter_map (in_covered ds) rows
  all_covered [] rows alike = none_covered rows
  all_covered (d ∷ ds) rows alike = all_covered ds (filter_map (fate d) rows) alike.1 ∙ compose (fate d) (in_covered ds) (in_covered (d ∷ ds)) rows (λ r. ap (option_and_then (in_covered ds)) (one_fate d r alike.0) ∙ at r (eqb r.space d.space) refl) where
    again : (r : Row) (o : Option Row) → f r ≡ o → option_and_then (in_covered ds) o ≡ o
    again r None g = refl
    again r (Some s) g = here (covers ds s.space) where
      here : (b : Bool) → cond b (f s) (Some s) ≡ Some s
      here true = once r s g
      here false = refl

    at : (r : Row) (b : Bool) → eqb r.space d.space ≡ b → option_and_then (in_covered ds) (cond b (f r) (Some r)) ≡ in_covered (d ∷ ds) r
    at r true e = again r (f r) refl ∙ rw (eqb_same d.space r.space ∙ e) refl
    at r false e = rw (eqb_same d.space r.space ∙ e) refl

  all_ended : (ds : List Decision) (rows : List Row) → ((r : Row) → is_held x r ≡ false → f r ≡ Some r) → AllByRecursion (λ (r : Row). is_held x r ≡ true → covers ds r.space ≡ true) rows → filter_map (in_covered ds) rows ≡ filter_map f rows
  all_ended ds [] unheld h = refl
  all_ended ds (r ∷ rows) unheld h = both (at (is_held x r) refl) (all_ended ds rows unheld h.1) where
    both : {o q : Option Row} {us vs : List Row} → o ≡ q → us ≡ vs → cons_option o us ≡ cons_option q vs
    both e g = cc

    stays : (b : Bool) → f r ≡ Some r → cond b (f r) (Some r) ≡ f r
    stays true g = refl
    stays false g = sym g

    at : (b : Bool) → is_held x r ≡ b → in_covered ds r ≡ f r
    at true e = rw (h.0 e) refl
    at false e = stays (covers ds r.space) (unheld r e)

covering_after : (x : ℕ) (more : List Decision) (ds : List Recorded) (rows : List Row) → AllByRecursion (λ (r : Row). is_held x r ≡ true → covers more r.space ≡ true) rows → AllByRecursion (λ (r : Row). is_held x r ≡ true → covers more r.space ≡ true) (rows_after ds rows)
covering_after x more ds rows h = all_after (λ (r : Row). is_held x r ≡ true → covers more r.space ≡ true) (λ d r s is k held. ap (covers more) (fate_keys d r s is).space ∙ k (held_before x d r s is held)) ds rows h

all_decided : (ds : List Decision) (rows : List Row) → rows_after (map Decided ds) rows ≡ rows_decided ds rows
all_decided [] rows = refl
all_decided (d ∷ ds) rows = all_decided ds (filter_map (fate d) rows)

-- what is decided last is done after all that is recorded before
pub ended_after : (x : ℕ) (commits : Bool) (ds : List Recorded) (more : List Decision) (rows : List Row) → EndsAll x commits more rows → rows_after (ds ++ map Decided more) rows ≡ cond commits (committed x (rows_after ds rows)) (aborted x (rows_after ds rows))
ended_after x commits ds more rows ends = fold-append (λ rows d. filter_map (becomes d) rows) rows ds (map Decided more) ∙ (all_decided more seen ∙ at commits ends.alike) where
  seen : List Row
  seen = rows_after ds rows

  at : (k : Bool) → AllByRecursion (λ (d : Decision). (d.transaction ≡ x) × (d.commits ≡ k)) more → rows_decided more seen ≡ cond k (committed x seen) (aborted x seen)
  at true alike =
      all_covered x true (committed_row x) (settled_once x) (λ r. refl) more seen alike
      ∙ (all_ended x true (committed_row x) (settled_once x) (λ r. refl) more seen (unheld_commits x) (covering_after x more ds rows ends.covering) ∙ committed_is x seen)
  at false alike =
      all_covered x false (aborted_row x) (undone_once x) (λ r. refl) more seen alike
      ∙ (all_ended x false (aborted_row x) (undone_once x) (λ r. refl) more seen (unheld_aborts x) (covering_after x more ds rows ends.covering) ∙ aborted_is x seen)

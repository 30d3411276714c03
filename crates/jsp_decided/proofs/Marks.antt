-- The marks that are left after what is recorded.
use Rattle.std.proofs.Common.{◌≡◌, ℕ, zero, suc, ◌+◌, ◌<◌, Bool, true, false, not, cond, ◌&&◌, ◌||◌, eqb, List, [], ◌∷◌, length, take, get_or, Option, Some, None, option_and_then, refl, ap, sym, ◌∙◌, subst}
use Rattle.std.specs.Prelude.{filter, fold, option_map, nat_lt, ◌==◌}
use Rattle.std.specs.Option.{option_map_or}
use Rattle.std.specs.List.{AllByRecursion, list_all, list_any}
use Rattle.std.proofs.lemmas.List.{take_more}
use Rattle.std.proofs.lemmas.List.Sums.{fold_push}
use Rattle.jsp_types.specs.declared.class.Class.{Class}
use Rattle.jsp_types.specs.Matching.{matches}
use Rattle.jsp_model.specs.declared.state.Row.{Row}
use Rattle.jsp_model.specs.declared.state.Blocked.{Blocked}
use Rattle.jsp_model.specs.declared.state.MatchSet.{MatchSet}
use Rattle.jsp_model.specs.Lookup.{is_caller}
use Rattle.jsp_model.specs.Changes.{unread}
use Rattle.jsp_model.specs.Sight.{is_free, is_take, readable}
use Rattle.jsp_sight.specs.Rows.{settled, undone, wanted, offered, held, shows}
use Rattle.jsp_sight.specs.declared.deciding.Decision.{Decision}
use Rattle.jsp_decided.specs.declared.recorded.Recorded.{Recorded}
use Rattle.jsp_decided.specs.declared.recorded.Recorded.TheVariants.{Decided, Reset}
use Rattle.jsp_index.specs.Changing.{HasSameKeys}
use Rattle.jsp_sight.specs.Deciding.{fate, committed_row, aborted_row}
use Rattle.jsp_decided.specs.Recording.{space_of, becomes}
use Rattle.jsp_index.proofs.Revisions.{eqb_same}
use Rattle.jsp_decided.specs.Decided.{row_after}
use Rattle.jsp_decided.specs.declared.after.Left.{Left}
use Rattle.jsp_decided.specs.Left.{marks_of, left_by, is_over, reads_alone, is_readable}
use Rattle.jsp_decided.proofs.RowsAfter.{some_row, fate_keys, elsewhere}

abbrev next : Option Row → Recorded → Option Row
next o d = option_and_then (becomes d) o

pub none_stays : (ds : List Recorded) → fold next None ds ≡ None
none_stays [] = refl
none_stays (d ∷ ds) = none_stays ds

-- ---- one decision more

more_after : (ds : List Recorded) (i : ℕ) (d : Recorded) (row : Row) → i < length ds → row_after (take (i + 1) ds) row ≡ option_and_then (becomes (get_or ds i d)) (row_after (take i ds) row)
more_after ds i d row lt = ap (λ ds. row_after ds row) (take_more ds i d lt) ∙ fold_push next (Some row) (take i ds) (get_or ds i d)

gone_from : (ds : List Recorded) (k : ℕ) (o : Option Row) → fold next o (take k ds) ≡ None → fold next o ds ≡ None
gone_from [] k o h = at k h where
  at : (k : ℕ) → fold next o (take k []) ≡ None → o ≡ None
  at zero g = g
  at (suc k) g = g
gone_from (d ∷ ds) zero o h = subst (λ o. fold next o (d ∷ ds) ≡ None) (sym h) (none_stays (d ∷ ds))
gone_from (d ∷ ds) (suc k) o h = gone_from ds k (next o d) h

pub gone_after : (ds : List Recorded) (k : ℕ) (row : Row) → row_after (take k ds) row ≡ None → row_after ds row ≡ None
gone_after ds k row h = gone_from ds k (Some row) h

-- ---- what the row keeps

pub keys_after : (ds : List Recorded) (r s : Row) → row_after ds r ≡ Some s → HasSameKeys r s
keys_after [] r s is = subst (HasSameKeys r) (some_row is) (record { number = refl; space = refl; entry = refl; end = refl })
keys_after (d ∷ ds) r s is = at (becomes d r) refl is (keys_after ds) where
  at : (o : Option Row) → becomes d r ≡ o → fold next o ds ≡ Some s → ((r s : Row) → row_after ds r ≡ Some s → HasSameKeys r s) → HasSameKeys r s
  at None e g rest = absurd (cc (g, none_stays ds))
  at (Some q) e g rest =
      let first = fate_keys d r q e in
      let then = rest q s g in
      record { number = then.number ∙ first.number; space = then.space ∙ first.space; entry = then.entry ∙ first.entry; end = then.end ∙ first.end }

-- ---- its marks

left_there : (d : Recorded) (r : Row) → eqb r.space (space_of d) ≡ true → option_map marks_of (becomes d r) ≡ left_by d (marks_of r)
left_there (Reset space) r here = ap (λ b. option_map marks_of (cond b None (Some r))) here
left_there (Decided d) r here = ap (λ b. option_map marks_of (cond b (cond d.commits (committed_row d.transaction r) (aborted_row d.transaction r)) (Some r))) here ∙ at d.commits (is_caller r.taker d.transaction) refl (is_caller r.writer d.transaction) refl where
  at : (k t : Bool) → is_caller r.taker d.transaction ≡ t → (w : Bool) → is_caller r.writer d.transaction ≡ w
      → option_map marks_of (cond k (committed_row d.transaction r) (aborted_row d.transaction r)) ≡ cond k (cond (is_caller r.taker d.transaction) None (Some (record { writer = cond (is_caller r.writer d.transaction) None r.writer; taker = r.taker })))
      (cond (is_caller r.writer d.transaction) None (Some (record { writer = r.writer; taker = cond (is_caller r.taker d.transaction) None r.taker })))
  at true true e w f = rw e refl
  at true false e true f = rw (e, f) refl
  at true false e false f = rw (e, f) refl
  at false t e true f = rw f refl
  at false true e false f = rw (e, f) refl
  at false false e false f = rw (e, f) refl

marks_once : (d : Recorded) (o : Option Row) (row : Row) (left : Left) → option_map marks_of o ≡ Some left → ((s : Row) → o ≡ Some s → s.space ≡ row.space) → option_map marks_of (option_and_then (becomes d) o) ≡ cond (eqb row.space (space_of d)) (left_by d left) (Some left)
marks_once d None row left is same = absurd (cc)
marks_once d (Some s) row left is same = at (eqb s.space (space_of d)) refl where
  some_left : {a b : Left} → Some a ≡ Some b → a ≡ b
  some_left e = cc

  at : (b : Bool) → eqb s.space (space_of d) ≡ b → option_map marks_of (becomes d s) ≡ cond (eqb row.space (space_of d)) (left_by d left) (Some left)
  at true e = left_there d s e ∙ (ap (left_by d) (some_left is) ∙ (rw (ap (λ k. eqb k (space_of d)) (sym (same s refl)) ∙ e) refl))
  at false e =
      let away : eqb row.space (space_of d) ≡ false = ap (λ k. eqb k (space_of d)) (sym (same s refl)) ∙ e in
      ap (option_map marks_of) (elsewhere d s e) ∙ (is ∙ ap (λ b. cond b (left_by d left) (Some left)) (sym away))

pub marks_more : (ds : List Recorded) (i : ℕ) (d : Recorded) (row : Row) (left : Left) → i < length ds → option_map marks_of (row_after (take i ds) row) ≡ Some left
    → option_map marks_of (row_after (take (i + 1) ds) row) ≡ cond (eqb row.space (space_of (get_or ds i d))) (left_by (get_or ds i d) left) (Some left)
marks_more ds i d row left lt is =
    ap (option_map marks_of) (more_after ds i d row lt) ∙ marks_once (get_or ds i d) (row_after (take i ds) row) row left is (λ s there. (keys_after (take i ds) row s there).space)

pub marks_gone : (o : Option Row) → option_map marks_of o ≡ None → o ≡ None
marks_gone None h = refl
marks_gone (Some s) h = absurd (cc)

-- ---- its readers

readers_filtered : (c : ℕ → Bool) (over : ℕ → Bool) (x : ℕ) (ys : List ℕ) → list_all (λ y. c y || over y) (filter (λ y. not (eqb y x)) ys) ≡ list_all (λ y. c y || (eqb x y || over y)) ys
readers_filtered c over x [] = refl
readers_filtered c over x (y ∷ ys) = at (eqb y x) refl (readers_filtered c over x ys) where
  with_true : (a : Bool) → (a || true) ≡ true
  with_true true = refl
  with_true false = refl

  at : (b : Bool) → eqb y x ≡ b → list_all (λ y. c y || over y) (filter (λ y. not (eqb y x)) ys) ≡ list_all (λ y. c y || (eqb x y || over y)) ys
      → list_all (λ y. c y || over y) (cond (not b) (y ∷ filter (λ y. not (eqb y x)) ys) (filter (λ y. not (eqb y x)) ys)) ≡ ((c y || (eqb x y || over y)) && list_all (λ y. c y || (eqb x y || over y)) ys)
  at true e rest = rw (eqb_same x y ∙ e, with_true (c y)) rest
  at false e rest = rw (eqb_same x y ∙ e) (ap (λ w. (c y || over y) && w) rest)

settled_readers : (x : ℕ) (r : Row) → (settled x r).readers ≡ filter (λ y. not (eqb y x)) r.readers
settled_readers x r = at (is_caller r.writer x) where
  at : (b : Bool) → (unread x (cond b (record r { writer = None }) r)).readers ≡ filter (λ y. not (eqb y x)) r.readers
  at true = refl
  at false = refl

undone_readers : (x : ℕ) (r : Row) → (undone x r).readers ≡ filter (λ y. not (eqb y x)) r.readers
undone_readers x r = at (is_caller r.taker x) where
  at : (b : Bool) → (unread x (cond b (record r { taker = None }) r)).readers ≡ filter (λ y. not (eqb y x)) r.readers
  at true = refl
  at false = refl

readers_there : (d : Decision) (r s : Row) → eqb r.space d.space ≡ true → fate d r ≡ Some s → s.readers ≡ filter (λ y. not (eqb y d.transaction)) r.readers
readers_there d r s here is = at d.commits (is_caller r.taker d.transaction) (is_caller r.writer d.transaction) (ap (λ b. cond b (cond d.commits (committed_row d.transaction r) (aborted_row d.transaction r)) (Some r)) (sym here) ∙ is) where
  at : (k t w : Bool) → cond k (cond t None (Some (settled d.transaction r))) (cond w None (Some (undone d.transaction r))) ≡ Some s → s.readers ≡ filter (λ y. not (eqb y d.transaction)) r.readers
  at true true w g = absurd (cc)
  at true false w g = ap (λ (r : Row). r.readers) (sym (some_row g)) ∙ settled_readers d.transaction r
  at false t true g = absurd (cc)
  at false t false g = ap (λ (r : Row). r.readers) (sym (some_row g)) ∙ undone_readers d.transaction r

-- of the readers that one record more leaves
readers_split : (c : ℕ → Bool) (d : Recorded) (ds : List Recorded) (r q : Row) → becomes d r ≡ Some q → list_all (λ y. c y || is_over (d ∷ ds) r.space y) r.readers ≡ list_all (λ y. c y || is_over ds r.space y) q.readers
readers_split c (Reset space) ds r q e = at (eqb r.space space) e where
  at : (b : Bool) → cond b None (Some r) ≡ Some q → list_all (λ y. c y || is_over ds r.space y) r.readers ≡ list_all (λ y. c y || is_over ds r.space y) q.readers
  at true g = absurd (cc)
  at false g = ap (λ (k : Row). list_all (λ y. c y || is_over ds r.space y) k.readers) (some_row g)
readers_split c (Decided d) ds r q e = split (eqb r.space d.space) refl where
  split : (b : Bool) → eqb r.space d.space ≡ b → list_all (λ y. c y || is_over (Decided d ∷ ds) r.space y) r.readers ≡ list_all (λ y. c y || is_over ds r.space y) q.readers
  split true here =
      ap (λ b. list_all (λ y. c y || ((b && eqb d.transaction y) || is_over ds r.space y)) r.readers) (eqb_same d.space r.space ∙ here)
      ∙ (sym (readers_filtered c (is_over ds r.space) d.transaction r.readers) ∙ ap (list_all (λ y. c y || is_over ds r.space y)) (sym (readers_there d r q here e)))
  split false away =
      ap (λ b. list_all (λ y. c y || ((b && eqb d.transaction y) || is_over ds r.space y)) r.readers) (eqb_same d.space r.space ∙ away)
      ∙ ap (λ (k : Row). list_all (λ y. c y || is_over ds r.space y) k.readers) (some_row (ap (λ b. cond b (cond d.commits (committed_row d.transaction r) (aborted_row d.transaction r)) (Some r)) (sym away) ∙ e))

pub readers_after : (c : ℕ → Bool) (ds : List Recorded) (r s : Row) → row_after ds r ≡ Some s → list_all (λ y. c y || is_over ds r.space y) r.readers ≡ list_all c s.readers
readers_after c [] r s is = ap (list_all (λ y. c y || false)) (ap (λ (r : Row). r.readers) (some_row is)) ∙ none s.readers where
  or_false : (b : Bool) → (b || false) ≡ b
  or_false true = refl
  or_false false = refl

  none : (ys : List ℕ) → list_all (λ y. c y || false) ys ≡ list_all c ys
  none [] = refl
  none (y ∷ ys) = rw (or_false (c y)) (ap (λ w. c y && w) (none ys))
readers_after c (d ∷ ds) r s is = at (becomes d r) refl is (readers_after c ds) where
  at : (o : Option Row) → becomes d r ≡ o → fold next o ds ≡ Some s → ((r s : Row) → row_after ds r ≡ Some s → list_all (λ y. c y || is_over ds r.space y) r.readers ≡ list_all c s.readers)
      → list_all (λ y. c y || is_over (d ∷ ds) r.space y) r.readers ≡ list_all c s.readers
  at None e g rest = absurd (cc (g, none_stays ds))
  at (Some q) e g rest = readers_split c d ds r q e ∙ (ap (λ k. list_all (λ y. c y || is_over ds k y) q.readers) (sym (fate_keys d r q e).space) ∙ rest q s g)

-- ---- what is asked of the row

by_marks : (o : Option Row) (left : Left) → option_map marks_of o ≡ Some left → (P : Option Row → Type 0) → ((s : Row) → o ≡ Some s → marks_of s ≡ left → P (Some s)) → P o
by_marks None left is P h = absurd (cc)
by_marks (Some s) left is P h = h s refl (some_left is) where
  some_left : {a b : Left} → Some a ≡ Some b → a ≡ b
  some_left e = cc

module _ (ds : List Recorded) (row : Row) (left : Left) (is : option_map marks_of (row_after ds row) ≡ Some left) where
  pub in_after : (space : ℕ) → eqb row.space space ≡ option_map_or (λ (r : Row). r.space == space) (row_after ds row) false
  in_after space = by_marks (row_after ds row) left is (λ o. eqb row.space space ≡ option_map_or (λ (r : Row). r.space == space) o false) (λ s there marks. ap (λ k. eqb k space) (sym (keys_after ds row s there).space))

  pub changed_after : (x space : ℕ) → (eqb row.space space && (is_caller left.writer x || is_caller left.taker x)) ≡ option_map_or (λ (r : Row). r.space == space && (is_caller r.writer x || is_caller r.taker x)) (row_after ds row) false
  changed_after x space = by_marks (row_after ds row) left is (λ o. (eqb row.space space && (is_caller left.writer x || is_caller left.taker x)) ≡ option_map_or (λ (r : Row). r.space == space && (is_caller r.writer x || is_caller r.taker x)) o false)
      (λ s there marks. ap (λ k. eqb k space && (is_caller left.writer x || is_caller left.taker x)) (sym (keys_after ds row s there).space) ∙ ap (λ (l : Left). eqb s.space space && (is_caller l.writer x || is_caller l.taker x)) (sym marks))

  pub shown_after : (classes : List Class) (m : MatchSet) → (row.space == m.space && nat_lt m.cursor row.number && nat_lt row.number m.number && is_readable left m.transaction && matches classes m.template row.entry) ≡ option_map_or (shows classes m) (row_after ds row) false
  shown_after classes m = by_marks (row_after ds row) left is (λ o. (row.space == m.space && nat_lt m.cursor row.number && nat_lt row.number m.number && is_readable left m.transaction && matches classes m.template row.entry) ≡ option_map_or (shows classes m) o false)
      (λ s there marks.
      let keys = keys_after ds row s there in
      ap (λ k. k == m.space && nat_lt m.cursor row.number && nat_lt row.number m.number && is_readable left m.transaction && matches classes m.template row.entry) (sym keys.space)
      ∙ (ap (λ k. s.space == m.space && nat_lt m.cursor k && nat_lt k m.number && is_readable left m.transaction && matches classes m.template row.entry) (sym keys.number)
      ∙ (ap (λ k. s.space == m.space && nat_lt m.cursor s.number && nat_lt s.number m.number && is_readable left m.transaction && matches classes m.template k) (sym keys.entry)
      ∙ ap (λ (l : Left). s.space == m.space && nat_lt m.cursor s.number && nat_lt s.number m.number && is_readable l m.transaction && matches classes m.template s.entry) (sym marks))))

  wanted_after : (classes : List Class) (b : Blocked) (s : Row) → row_after ds row ≡ Some s → wanted classes b row ≡ wanted classes b s
  wanted_after classes b s there =
      let keys = keys_after ds row s there in
      ap (λ k. k == b.space && list_any (λ t. matches classes t row.entry) b.templates) (sym keys.space) ∙ ap (λ k. s.space == b.space && list_any (λ t. matches classes t k) b.templates) (sym keys.entry)

  pub offered_after : (classes : List Class) (b : Blocked) → (wanted classes b row && (is_readable left b.transaction && (not (is_take b.form) || reads_alone ds row b.transaction))) ≡ option_map_or (offered classes b) (row_after ds row) false
  offered_after classes b = by_marks (row_after ds row) left is (λ o. (wanted classes b row && (is_readable left b.transaction && (not (is_take b.form) || reads_alone ds row b.transaction))) ≡ option_map_or (offered classes b) o false)
      (λ s there marks.
      ap (λ w. w && (is_readable left b.transaction && (not (is_take b.form) || reads_alone ds row b.transaction))) (wanted_after classes b s there)
      ∙ (ap (λ (l : Left). wanted classes b s && (is_readable l b.transaction && (not (is_take b.form) || reads_alone ds row b.transaction))) (sym marks)
      ∙ (ap (λ a. wanted classes b s && (is_readable (marks_of s) b.transaction && (not (is_take b.form) || a))) (readers_after (is_caller b.transaction) ds row s there)
      ∙ ap (λ k. wanted classes b s && k) (at s (is_take b.form) (readable b.transaction s)))))
    where
      at : (s : Row) (t r : Bool) → (r && (not t || list_all (is_caller b.transaction) s.readers)) ≡ cond t (r && list_all (is_caller b.transaction) s.readers) r
      at s true r = refl
      at s false true = refl
      at s false false = refl

  pub conflict_after : (classes : List Class) (b : Blocked) → (wanted classes b row && (is_free b.transaction left.writer && (not (is_free b.transaction left.taker) || (is_take b.form && not (reads_alone ds row b.transaction))))) ≡ option_map_or (held classes b) (row_after ds row) false
  conflict_after classes b = by_marks (row_after ds row) left is (λ o. (wanted classes b row && (is_free b.transaction left.writer && (not (is_free b.transaction left.taker) || (is_take b.form && not (reads_alone ds row b.transaction))))) ≡ option_map_or (held classes b) o false)
      (λ s there marks.
      ap (λ w. w && (is_free b.transaction left.writer && (not (is_free b.transaction left.taker) || (is_take b.form && not (reads_alone ds row b.transaction))))) (wanted_after classes b s there)
      ∙ (ap (λ (l : Left). wanted classes b s && (is_free b.transaction l.writer && (not (is_free b.transaction l.taker) || (is_take b.form && not (reads_alone ds row b.transaction))))) (sym marks)
      ∙ ap (λ a. wanted classes b s && (is_free b.transaction s.writer && (not (is_free b.transaction s.taker) || (is_take b.form && not a)))) (readers_after (is_caller b.transaction) ds row s there)))

  pub written_after : (p : Option ℕ → Bool) → p left.writer ≡ option_map_or (λ (r : Row). p r.writer) (row_after ds row) false
  written_after p = by_marks (row_after ds row) left is (λ o. p left.writer ≡ option_map_or (λ (r : Row). p r.writer) o false) (λ s there marks. ap (λ (l : Left). p l.writer) (sym marks))

pub gone_written : (o : Option Row) (p : Row → Bool) → option_map marks_of o ≡ None → false ≡ option_map_or p o false
gone_written o p is = rw (marks_gone o is) refl

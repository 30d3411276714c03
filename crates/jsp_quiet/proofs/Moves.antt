-- What a change elsewhere leaves of a space.
use Rattle.std.proofs.Common.{◌≡◌, refl, sym, ap, ◌∙◌, subst, ℕ, ◌+◌, List, [], ◌∷◌, ◌++◌, Bool, true, false, not, cond, ◌&&◌, ◌||◌, filter, fold, drop, length, Option, Some, None, unwrap_or, ◌==◌, eqb-true, eq-eqb, bytes_eq, true≢false, arith}
use Rattle.std.specs.Prelude.{position}
use Rattle.std.specs.List.{list_all}
use Rattle.std.proofs.lemmas.Bool.{false_from_ne_true}
use Rattle.jsp_types.specs.declared.entry.Raw.{Raw}
use Rattle.jsp_types.specs.Matching.{matches}
use Rattle.jsp_wire.specs.declared.ask.Notify.{Notify}
use Rattle.jsp_wire.specs.declared.ask.Contents.{Contents}
use Rattle.jsp_model.specs.declared.state.State.{State}
use Rattle.jsp_model.specs.declared.state.Row.{Row}
use Rattle.jsp_model.specs.declared.state.Registration.{Registration}
use Rattle.jsp_model.specs.declared.state.Blocked.{Blocked}
use Rattle.jsp_model.specs.declared.state.Transaction.{Transaction}
use Rattle.jsp_model.specs.declared.state.Joined.{Joined}
use Rattle.jsp_model.specs.Lookup.{update, contains, is_caller}
use Rattle.jsp_model.specs.Sight.{is_take}
use Rattle.jsp_model.specs.Requests.{WriteRequest, RowRequest, as_blocked, would_block, caller_of, place_of}
use Rattle.jsp_model.specs.Changes.{hears, owe, add_row, new_row, write, give, block, unblock, give_or_block, register, open_set, close, tell, unread, aborted, abort, forget, committed, published, commit, is_not_changed, vote_of, cast, reset}
use Rattle.jsp_laws.proofs.Lists.{Each, each_weaker, each_kept, each_filter, each_touched, all_kept}
use Rattle.jsp_laws.proofs.Sound.{after_giving}
use Rattle.jsp_quiet.specs.Steady.{spaces_of, HasJoined, RowFits, IsPlaced}
use Rattle.jsp_quiet.proofs.Lists.{kept_alike, mapped_alike, updated_alike, flat_alike, added_alike, all_updated, all_pushed}
use Rattle.jsp_quiet.proofs.Still.{here, is_paid, all_there, Still, still_none, still_then}
use Rattle.jsp_quiet.proofs.Spaces.{joining}
use Rattle.jsp_quiet.proofs.Placed.{choose}

-- the test sees neither the end of a row nor the marks on it
abbrev pub SeesNoMarks : (Row → Bool) → Type 0
SeesNoMarks q = (r : Row) (end : ℕ) (writer taker : Option ℕ) (readers : List ℕ) → q (record r { end = end; writer = writer; taker = taker; readers = readers }) ≡ q r

here_sees : (p : ℕ) → SeesNoMarks (here p)
here_sees p r end writer taker readers = refl

-- ---- what goes

paid_kept : (p : ℕ) (t : Registration → Bool) (rs : List Registration) → list_all (is_paid p) rs ≡ true → list_all (is_paid p) (filter t rs) ≡ true
paid_kept p t rs h = all_kept (is_paid p) t rs h

there_kept : (p : ℕ) (keep t : Blocked → Bool) (bs : List Blocked) → all_there p t bs ≡ true → all_there p t (filter keep bs) ≡ true
there_kept p keep t bs h = all_kept (λ b. not (b.space == p) || t b) keep bs h

pub still_close : (p : ℕ) (st : State) (s : ℕ) → Still p st (close st s)
still_close p st s = record { classes = refl; rows = refl; blocked = λ t h. there_kept p _ t st.blocked h; registrations = λ h. paid_kept p _ st.registrations h }

pub still_unblock : (p : ℕ) (st : State) (n : ℕ) → Still p st (unblock st n)
still_unblock p st n = record { classes = refl; rows = refl; blocked = λ t h. there_kept p _ t st.blocked h; registrations = λ h. h }

pub still_transactions : (p : ℕ) (st : State) (ts : List Transaction) → Still p st (record st { transactions = ts })
still_transactions p st ts = record { classes = refl; rows = refl; blocked = λ t h. h; registrations = λ h. h }

-- ---- writing

paid_elsewhere : (p : ℕ) (row : Row) (q : Registration) → (row.space == p) ≡ false → (q.space == row.space) ≡ true → is_paid p (record q { owed = q.owed ++ row.number ∷ [] }) ≡ true
paid_elsewhere p row q e k =
    let w : q.space ≡ row.space = eqb-true q.space row.space k in
    let away : (q.space == p) ≡ false = subst (λ s. (s == p) ≡ false) (sym w) e in
    rw away refl

middle : (a b d : Bool) → (a && b && d) ≡ true → b ≡ true
middle true true d e = refl
middle true false d e = absurd (cc)
middle false b d e = absurd (cc)

pub still_owe : (p : ℕ) (o : Option ℕ) (st : State) (row : Row) → (row.space == p) ≡ false → Still p st (owe o st row)
still_owe p o st row e = record {
  classes = refl;
  rows = refl;
  blocked = λ t h. h;
  registrations = λ h. all_updated (is_paid p) (λ q. hears o q && q.space == row.space && matches st.classes q.template row.entry) (λ (q : Registration). record q { owed = q.owed ++ row.number ∷ [] })
      (λ q k u. paid_elsewhere p row q e (middle (hears o q) (q.space == row.space) (matches st.classes q.template row.entry) k)) st.registrations h;
}

still_put : (p : ℕ) (st : State) (row : Row) → (row.space == p) ≡ false → Still p st (add_row st row)
still_put p st row e =
    let put : State = record st { rows = st.rows ++ row ∷ []; next_number = st.next_number + 1 } in
    let first : Still p st put = record { classes = refl; rows = added_alike (here p) st.rows (row ∷ []) (e, tt); blocked = λ t h. h; registrations = λ h. h } in
    still_then first (still_owe p row.writer put row e)

rows_elsewhere : (p : ℕ) (st : State) (w : WriteRequest) → (place_of st w.space == p) ≡ false → (raws : List Raw) (b : State) → b.spaces ≡ st.spaces → Still p st b → Still p st (fold (λ b raw. add_row b (new_row b w raw)) b raws)
rows_elsewhere p st w e [] b s h = h
rows_elsewhere p st w e (raw ∷ raws) b s h =
    let place : place_of b w.space ≡ place_of st w.space = ap (λ spaces. unwrap_or (position (λ q. bytes_eq q.name w.space) spaces) 0) s in
    let e' : (place_of b w.space == p) ≡ false = subst (λ q. (q == p) ≡ false) (sym place) e in
    rows_elsewhere p st w e raws (add_row b (new_row b w raw)) s (still_then h (still_put p b (new_row b w raw) e'))

pub still_write : (p : ℕ) (st : State) (w : WriteRequest) → (place_of st w.space == p) ≡ false → Still p st (write st w)
still_write p st w e =
    let j = joining st (caller_of w.txn) (place_of st w.space) in
    subst (λ k. Still p st (fold (λ b raw. add_row b (new_row b w raw)) k w.entries)) (sym j.is)
    (rows_elsewhere p st w e w.entries (record st { transactions = j.ts }) refl (still_transactions p st j.ts))

-- ---- giving and waiting

given_elsewhere : (q : Row → Bool) → SeesNoMarks q → (b takes : Bool) (x : Option ℕ) (r : Row) → (q r ≡ true → b ≡ false) → filter q (after_giving b takes x r) ≡ filter q (r ∷ [])
given_elsewhere q s true takes x r e = go takes x
  where
    no : q r ≡ false
    no = false_from_ne_true (q r) (λ k. true≢false (e k))

    go : (takes : Bool) (x : Option ℕ) → filter q (after_giving true takes x r) ≡ filter q (r ∷ [])
    go true None = rw no refl
    go true (Some x) = rw (s r r.end r.writer (Some x) r.readers ∙ no, no) refl
    go false None = refl
    go false (Some x) = rw (s r r.end r.writer r.taker (cond (contains r.readers x) r.readers (r.readers ++ x ∷ [])) ∙ no, no) refl
given_elsewhere q s false takes x r e = refl

pub given_alike : (q : Row → Bool) → SeesNoMarks q → (st : State) (b : Blocked) (ns : List ℕ) → Each (λ (r : Row). q r ≡ true → contains ns r.number ≡ false) st.rows → filter q (give st b ns).rows ≡ filter q st.rows
given_alike q s st b ns h =
    flat_alike q _ st.rows (each_weaker (λ (r : Row). q r ≡ true → contains ns r.number ≡ false) _ (λ r k. given_elsewhere q s (contains ns r.number) (is_take b.form) b.transaction r k) st.rows h)

pub still_give : (p : ℕ) (st : State) (b : Blocked) (ns : List ℕ) → (b.space == p) ≡ false → Each (λ (r : Row). contains ns r.number ≡ true → (r.space == b.space) ≡ true) st.rows → Still p st (give st b ns)
still_give p st b ns e there = record {
  classes = refl;
  rows = given_alike (here p) (here_sees p) st b ns (each_weaker (λ (r : Row). contains ns r.number ≡ true → (r.space == b.space) ≡ true) (λ (r : Row). here p r ≡ true → contains ns r.number ≡ false) (λ r h k. away r k h) st.rows there);
  blocked = λ t h. h;
  registrations = λ h. h;
}
  where
    away : (r : Row) → here p r ≡ true → (contains ns r.number ≡ true → (r.space == b.space) ≡ true) → contains ns r.number ≡ false
    away r k h =
        false_from_ne_true (contains ns r.number) (λ z.
        let same : r.space ≡ b.space = eqb-true r.space b.space (h z) in
        let elsewhere : (r.space == p) ≡ false = subst (λ s. (s == p) ≡ false) (sym same) e in
        true≢false (sym k ∙ elsewhere))

still_block : (p : ℕ) (st : State) (b : Blocked) → (b.space == p) ≡ false → Still p st (block st b)
still_block p st b e = record { classes = refl; rows = refl; blocked = λ t h. all_pushed (λ b. not (b.space == p) || t b) st.blocked b (rw e refl) h; registrations = λ h. h }

pub still_seek : (p : ℕ) (st : State) (s id : ℕ) (q : RowRequest) (ns : List ℕ) → (place_of st q.space == p) ≡ false
    → Each (λ (r : Row). contains ns r.number ≡ true → (r.space == place_of st q.space) ≡ true) st.rows → Still p st (give_or_block st s id q ns)
still_seek p st s id q ns e there =
    let b = as_blocked st s id q in
    let j = joining st (caller_of q.txn) (place_of st q.space) in
    let k : State = record st { transactions = j.ts } in
    subst (λ k. Still p st (cond (would_block st s id q) (block k b) (give k b ns))) (sym j.is)
    (choose (Still p st) (would_block st s id q) (block k b) (give k b ns)
    (still_then (still_transactions p st j.ts) (still_block p k b e))
    (still_then (still_transactions p st j.ts) (still_give p k b ns e there)))

pub still_register : (p : ℕ) (st : State) (s : ℕ) (q : Notify) → (place_of st q.space == p) ≡ false → Still p st (register st s q)
still_register p st s q e =
    let j = joining st (caller_of q.txn) (place_of st q.space) in
    subst (λ (k : State). Still p st (record k { registrations = (register st s q).registrations; next_number = st.next_number + 1 })) (sym j.is)
    (record { classes = refl; rows = refl; blocked = λ t h. h; registrations = λ h. all_pushed (is_paid p) st.registrations _ (rw e refl) h })

pub still_open_set : (p : ℕ) (st : State) (s : ℕ) (q : Contents) → Still p st (open_set st s q)
still_open_set p st s q =
    let j = joining st (caller_of q.txn) (place_of st q.space) in
    subst (λ (k : State). Still p st (record k { sets = (open_set st s q).sets; next_number = st.next_number + 1 })) (sym j.is)
    (record { classes = refl; rows = refl; blocked = λ t h. h; registrations = λ h. h })

-- ---- telling

dropped_paid : (b : Bool) (owed : List ℕ) → (b || length owed == 0) ≡ true → (b || length (drop 1 owed) == 0) ≡ true
dropped_paid true owed e = refl
dropped_paid false [] e = refl
dropped_paid false (n ∷ ns) e = let w : length (n ∷ ns) ≡ 0 = eqb-true (length (n ∷ ns)) 0 e in absurd (omega (arith, w))

pub still_tell : (p : ℕ) (st : State) (n : ℕ) → Still p st (tell st n)
still_tell p st n = record {
  classes = refl;
  rows = refl;
  blocked = λ t h. h;
  registrations = λ h. all_updated (is_paid p) (λ r. r.number == n) (λ (r : Registration). record r { owed = drop 1 r.owed; sequence = r.sequence + 1 }) (λ r k u. dropped_paid (not (r.space == p)) r.owed u) st.registrations h;
}

-- ---- the end of a transaction that didn't join the space

-- if the row passes the test, the transaction has no mark on it
abbrev pub Unmarked : (Row → Bool) → ℕ → Row → Type 0
Unmarked q x r = q r ≡ true → (is_caller r.writer x ≡ false) × (is_caller r.taker x ≡ false) × (contains r.readers x ≡ false)

no_caller : (ts : List Transaction) (o : Option ℕ) (x p : ℕ) → HasJoined ts o p → contains (spaces_of ts x) p ≡ false → is_caller o x ≡ false
no_caller ts None x p j e = refl
no_caller ts (Some y) x p j e = go (y == x) refl
  where
    go : (b : Bool) → (y == x) ≡ b → b ≡ false
    go true k = let w : contains (spaces_of ts x) p ≡ true = j x (ap Some (eqb-true y x k)) in absurd (true≢false (sym w ∙ e))
    go false k = refl

unmarked : (st : State) (p x : ℕ) → IsPlaced st → contains (spaces_of st.transactions x) p ≡ false → Each (Unmarked (here p) x) st.rows
unmarked st p x h e = each_weaker (RowFits st.classes st.transactions) (Unmarked (here p) x) (λ r f k. go r f (eqb-true r.space p k)) st.rows h.rows
  where
    go : (r : Row) → RowFits st.classes st.transactions r → r.space ≡ p → (is_caller r.writer x ≡ false) × (is_caller r.taker x ≡ false) × (contains r.readers x ≡ false)
    go r f w = (
      no_caller st.transactions r.writer x p (subst (λ s. HasJoined st.transactions r.writer s) w f.writer) e,
      no_caller st.transactions r.taker x p (subst (λ s. HasJoined st.transactions r.taker s) w f.taker) e,
      false_from_ne_true (contains r.readers x) (λ k. let j : contains (spaces_of st.transactions x) p ≡ true = subst (λ s. contains (spaces_of st.transactions x) s ≡ true) w (f.readers x k) in true≢false (sym j ∙ e)),
    )

without_none : (x : ℕ) (ns : List ℕ) → contains ns x ≡ false → filter (λ y. not (y == x)) ns ≡ ns
without_none x [] e = refl
without_none x (n ∷ ns) e = go (n == x) e (without_none x ns)
  where
    go : (b : Bool) → (b || contains ns x) ≡ false → (contains ns x ≡ false → filter (λ y. not (y == x)) ns ≡ ns) → cond (not b) (n ∷ filter (λ y. not (y == x)) ns) (filter (λ y. not (y == x)) ns) ≡ n ∷ ns
    go true k ih = absurd (cc)
    go false k ih = ap (λ ys. n ∷ ys) (ih k)

pub unread_same : (x : ℕ) (r : Row) → contains r.readers x ≡ false → unread x r ≡ r
unread_same x r e = ap (λ ns. record r { readers = ns }) (without_none x r.readers e)

pub aborted_alike : (q : Row → Bool) → SeesNoMarks q → (x : ℕ) (rows : List Row) → Each (Unmarked q x) rows → filter q (aborted x rows) ≡ filter q rows
aborted_alike q s x rows u =
    let kept : List Row = filter (λ row. not (is_caller row.writer x)) rows in
    let a : Each (Unmarked q x) kept = each_filter (Unmarked q x) _ rows u in
    let seen : (r : Row) → q (record r { taker = None }) ≡ q r = λ r. s r r.end r.writer None r.readers in
    let c : Each (Unmarked q x) (update (λ row. is_caller row.taker x) (λ (row : Row). record row { taker = None }) kept) = each_touched (Unmarked q x) (λ row. is_caller row.taker x) (λ (row : Row). record row { taker = None }) (λ r h k. let z = h (sym (seen r) ∙ k) in (z.0, refl, z.2)) kept a in
    mapped_alike q (unread x) (λ r. s r r.end r.writer r.taker _) _ (each_weaker (Unmarked q x) (λ r. q r ≡ true → unread x r ≡ r) (λ r h k. unread_same x r (h k).2) _ c)
    ∙ updated_alike q (λ row. is_caller row.taker x) (λ (row : Row). record row { taker = None }) seen kept (each_weaker (Unmarked q x) (λ r. q r ≡ true → is_caller r.taker x ≡ false) (λ r h k. (h k).1) kept a)
    ∙ kept_alike q (λ row. not (is_caller row.writer x)) rows (each_weaker (Unmarked q x) (λ r. q r ≡ true → not (is_caller r.writer x) ≡ true) (λ r h k. rw (h k).0 refl) rows u)

pub committed_alike : (q : Row → Bool) → SeesNoMarks q → (x : ℕ) (rows : List Row) → Each (Unmarked q x) rows → filter q (committed x rows) ≡ filter q rows
committed_alike q s x rows u =
    let kept : List Row = filter (λ row. not (is_caller row.taker x)) rows in
    let a : Each (Unmarked q x) kept = each_filter (Unmarked q x) _ rows u in
    let seen : (r : Row) → q (record r { writer = None }) ≡ q r = λ r. s r r.end None r.taker r.readers in
    let c : Each (Unmarked q x) (update (λ row. is_caller row.writer x) (λ (row : Row). record row { writer = None }) kept) = each_touched (Unmarked q x) (λ row. is_caller row.writer x) (λ (row : Row). record row { writer = None }) (λ r h k. let z = h (sym (seen r) ∙ k) in (refl, z.1, z.2)) kept a in
    mapped_alike q (unread x) (λ r. s r r.end r.writer r.taker _) _ (each_weaker (Unmarked q x) (λ r. q r ≡ true → unread x r ≡ r) (λ r h k. unread_same x r (h k).2) _ c)
    ∙ updated_alike q (λ row. is_caller row.writer x) (λ (row : Row). record row { writer = None }) seen kept (each_weaker (Unmarked q x) (λ r. q r ≡ true → is_caller r.writer x ≡ false) (λ r h k. (h k).0) kept a)
    ∙ kept_alike q (λ row. not (is_caller row.taker x)) rows (each_weaker (Unmarked q x) (λ r. q r ≡ true → not (is_caller r.taker x) ≡ true) (λ r h k. rw (h k).1 refl) rows u)

pub still_abort : (p : ℕ) (st : State) (x : ℕ) → IsPlaced st → contains (spaces_of st.transactions x) p ≡ false → Still p st (abort st x)
still_abort p st x h e = record {
  classes = refl;
  rows = aborted_alike (here p) (here_sees p) x st.rows (unmarked st p x h e);
  blocked = λ t k. there_kept p _ t st.blocked k;
  registrations = λ k. paid_kept p _ st.registrations k;
}

owed_elsewhere : (p : ℕ) (rows : List Row) → Each (λ (r : Row). (r.space == p) ≡ false) rows → (st : State) → Still p st (fold (owe None) st rows)
owed_elsewhere p [] e st = still_none p st
owed_elsewhere p (r ∷ rows) (e, es) st = still_then (still_owe p None st r e) (owed_elsewhere p rows es (owe None st r))

written_elsewhere : (p x : ℕ) (r : Row) → Unmarked (here p) x r → (is_caller r.writer x && not (is_caller r.taker x)) ≡ true → (r.space == p) ≡ false
written_elsewhere p x r u e = go (r.space == p) refl
  where
    go : (b : Bool) → (r.space == p) ≡ b → b ≡ false
    go true k = let w : is_caller r.writer x ≡ false = (u k).0 in absurd (cc (rw w at e))
    go false k = refl

pub still_commit : (p : ℕ) (st : State) (x : ℕ) → IsPlaced st → contains (spaces_of st.transactions x) p ≡ false → Still p st (commit st x)
still_commit p st x h e =
    let u : Each (Unmarked (here p) x) st.rows = unmarked st p x h e in
    let freed : State = record (forget st x) { rows = committed x st.rows } in
    let first : Still p st freed = record {
      classes = refl;
      rows = committed_alike (here p) (here_sees p) x st.rows u;
      blocked = λ t k. there_kept p _ t st.blocked k;
      registrations = λ k. paid_kept p _ st.registrations k;
    } in
    still_then first (owed_elsewhere p (published x st.rows) (each_kept (Unmarked (here p) x) (λ (r : Row). (r.space == p) ≡ false) (λ row. is_caller row.writer x && not (is_caller row.taker x)) (λ r k q. written_elsewhere p x r q k) st.rows u) freed)

-- ---- votes

pub still_cast : (p : ℕ) (st : State) (x : ℕ) (j : Joined) → (j.space == p) ≡ false → Still p st (cast st x j)
still_cast p st x j e = record {
  classes = refl;
  rows = updated_alike (here p) (λ row. is_not_changed (vote_of st x j) && row.space == j.space) (unread x) (λ r. refl) st.rows (all st.rows);
  blocked = λ t h. h;
  registrations = λ h. h;
}
  where
    one : (r : Row) → here p r ≡ true → (is_not_changed (vote_of st x j) && r.space == j.space) ≡ false
    one r k =
        let w : r.space ≡ p = eqb-true r.space p k in
        go (is_not_changed (vote_of st x j)) (r.space == j.space) refl w
      where
        go : (a b : Bool) → (r.space == j.space) ≡ b → r.space ≡ p → (a && b) ≡ false
        go true true q w = let v : (j.space == p) ≡ true = eq-eqb j.space p (sym (eqb-true r.space j.space q) ∙ w) in absurd (true≢false (sym v ∙ e))
        go true false q w = refl
        go false b q w = refl

    all : (rows : List Row) → Each (λ (r : Row). here p r ≡ true → (is_not_changed (vote_of st x j) && r.space == j.space) ≡ false) rows
    all [] = tt
    all (r ∷ rows) = (one r, all rows)

-- ---- reset

other_spaces : (p q : ℕ) → (q == p) ≡ false → (rows : List Row) → Each (λ (r : Row). here p r ≡ true → not (r.space == q) ≡ true) rows
other_spaces p q e [] = tt
other_spaces p q e (r ∷ rows) = ((λ k. let w : r.space ≡ p = eqb-true r.space p k in go (r.space == q) refl w), other_spaces p q e rows)
  where
    go : (b : Bool) → (r.space == q) ≡ b → r.space ≡ p → not b ≡ true
    go true k w = let v : (q == p) ≡ true = eq-eqb q p (sym (eqb-true r.space q k) ∙ w) in absurd (true≢false (sym v ∙ e))
    go false k w = refl

pub still_reset : (p : ℕ) (st : State) (q : ℕ) → (q == p) ≡ false → Still p st (reset st q)
still_reset p st q e = record {
  classes = refl;
  rows = kept_alike (here p) (λ r. not (r.space == q)) st.rows (other_spaces p q e st.rows);
  blocked = λ t h. there_kept p _ t st.blocked h;
  registrations = λ h. paid_kept p _ st.registrations h;
}

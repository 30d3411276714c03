-- What holds a request up goes on doing so, unless a step may end it.
use Rattle.std.proofs.Common.{◌≡◌, refl, sym, ap, ◌∙◌, subst, ℕ, ℤ, ◌+◌, List, [], ◌∷◌, ◌++◌, Bool, true, false, not, cond, ◌||◌, ◌&&◌, filter, flat_map, map, fold, Option, Some, None, is_some, is_none, ◌==◌, eqb-true, true≢false, inl, inr}
use Rattle.std.specs.Prelude.{nat_lt, length}
use Rattle.std.specs.List.{list_any, list_all}
use Rattle.std.specs.Option.{option_map_or}
use Rattle.std.proofs.lemmas.Bool.{and_parts, and_from, or_parts}
use Rattle.jsp_types.specs.Tests.{first_that}
use Rattle.jsp_types.specs.declared.class.Class.{Class}
use Rattle.jsp_wire.specs.declared.ask.Ask.{Ask}
use Rattle.jsp_wire.specs.declared.ask.Ask.TheVariants as ask
use Rattle.jsp_wire.specs.declared.ask.Notify.{Notify}
use Rattle.jsp_wire.specs.declared.ask.Contents.{Contents}
use Rattle.jsp_reply.specs.declared.refusal.Refusal.{Refusal}
use Rattle.jsp_model.specs.declared.state.State.{State}
use Rattle.jsp_model.specs.declared.state.Row.{Row}
use Rattle.jsp_model.specs.declared.state.Blocked.{Blocked}
use Rattle.jsp_model.specs.declared.state.Joined.{Joined}
use Rattle.jsp_model.specs.declared.state.Form.TheVariants as form
use Rattle.jsp_lease.specs.declared.item.Rank.{Rank}
use Rattle.jsp_lease.specs.declared.item.Rank.TheVariants as rank
use Rattle.jsp_lease.specs.Granted.{ms_of}
use Rattle.jsp_model.specs.declared.step.Step.{Step}
use Rattle.jsp_model.specs.declared.step.Step.TheVariants as step
use Rattle.jsp_model.specs.Lookup.{update, contains, named, is_caller, is_open, rank_of, joined_at, joined_of, blocked_of}
use Rattle.jsp_model.specs.Sight.{is_take, is_free, readable, takeable, is_available, is_in_conflict, available, has_conflict}
use Rattle.jsp_model.specs.Refusals.{refusal, renew_tests, lease_tests}
use Rattle.jsp_model.specs.Requests.{WriteRequest, RowRequest, one_entry, all_entries, one_row, many_rows, rows_asked, as_blocked, would_block, class_asked, caller_of, place_of}
use Rattle.jsp_model.specs.Changes.{owe, add_row, new_row, write, give, block, give_or_block, register, open_set, close, unread, forget, committed, published, commit, aborted, abort, is_not_changed, vote_of, cast, remove, extend, renew, renew_one, cancel, cancel_one, accepted}
use Rattle.jsp_model.specs.Quiet.{are_quiet}
use Rattle.jsp_model.specs.Due.{due}
use Rattle.jsp_model.specs.Touches.{touches}
use Rattle.jsp_model.specs.Steps.{is_choice, has_its_rows, is_legal, after_ask, is_too_long, after_grant, change, next}
use Rattle.jsp_laws.proofs.Lists.{Each, Has, each_weaker, each_both, each_itself, each_numbers, has_mapped, has_kept, found_has, fold_keeps, fold_keeps_each}
use Rattle.jsp_laws.proofs.Held.{available_row}
use Rattle.jsp_laws.proofs.Made.{and_both, choice_available, fourth}
use Rattle.jsp_laws.proofs.Sound.{row_number, after_giving}
use Rattle.jsp_laws.proofs.Rising.{Rising}
use Rattle.jsp_quiet.specs.Waking.{is_marked}
use Rattle.jsp_quiet.specs.Freeing.{would_vote_not_changed, frees, ask_frees, ask_ends, ask_ends_any, ends_any, ends_conflict}
use Rattle.jsp_quiet.proofs.Lists.{any_has, each_not}
use Rattle.jsp_quiet.proofs.Spaces.{joining, only_one}
use Rattle.jsp_quiet.proofs.Placed.{choose}
use Rattle.jsp_quiet.proofs.Moves.{unread_same}
use Rattle.jsp_quiet.proofs.Waking.{added_all}
use Rattle.jsp_quiet.proofs.Still.{wanted, held_for}

-- ---- lists

any_first : {A : Type 0} (t : A → Bool) (xs ys : List A) → list_any t xs ≡ true → list_any t (xs ++ ys) ≡ true
any_first t [] ys h = absurd (true≢false (sym h))
any_first {A = A} t (x ∷ xs) ys h = go (t x) h (any_first t xs ys)
  where
    go : (b : Bool) → (b || list_any t xs) ≡ true → (list_any t xs ≡ true → list_any t (xs ++ ys) ≡ true) → (b || list_any t (xs ++ ys)) ≡ true
    go true h ih = refl
    go false h ih = ih h

any_last : {A : Type 0} (t : A → Bool) (xs ys : List A) → list_any t ys ≡ true → list_any t (xs ++ ys) ≡ true
any_last t [] ys h = h
any_last {A = A} t (x ∷ xs) ys h = go (t x) (any_last t xs ys h)
  where
    go : (b : Bool) → list_any t (xs ++ ys) ≡ true → (b || list_any t (xs ++ ys)) ≡ true
    go true k = refl
    go false k = k

any_flat : {A : Type 0} (t : A → Bool) (f : A → List A) (xs : List A) → Each (λ x. t x ≡ true → list_any t (f x) ≡ true) xs → list_any t xs ≡ true → list_any t (flat_map f xs) ≡ true
any_flat t f [] g h = absurd (true≢false (sym h))
any_flat {A = A} t f (x ∷ xs) g h = go (t x) refl h (any_flat t f xs g.1)
  where
    go : (b : Bool) → t x ≡ b → (b || list_any t xs) ≡ true → (list_any t xs ≡ true → list_any t (flat_map f xs) ≡ true) → list_any t (f x ++ flat_map f xs) ≡ true
    go true e h ih = any_first t (f x) (flat_map f xs) (g.0 e)
    go false e h ih = any_last t (f x) (flat_map f xs) (ih h)

any_updated : {A : Type 0} (p t : A → Bool) (f : A → A) → ((x : A) → p x ≡ true → p (f x) ≡ true) → (xs : List A) → list_any p xs ≡ true → list_any p (update t f xs) ≡ true
any_updated p t f s [] h = h
any_updated {A = A} p t f s (x ∷ xs) h = go (t x) (p x) refl h (any_updated p t f s xs)
  where
    go : (d b : Bool) → p x ≡ b → (b || list_any p xs) ≡ true → (list_any p xs ≡ true → list_any p (update t f xs) ≡ true) → (p (cond d (f x) x) || list_any p (update t f xs)) ≡ true
    go true true e h ih = rw (s x e) refl
    go false true e h ih = rw e refl
    go d false e h ih = any_last p (cond d (f x) x ∷ []) (update t f xs) (ih h)

has_updated : {A : Type 0} (t : A → Bool) (f : A → A) (xs : List A) (x : A) → t x ≡ false → Has xs x → Has (update t f xs) x
has_updated t f xs x e h = subst (λ y. Has (update t f xs) y) (ap (λ b. cond b (f x) x) e) (has_mapped (λ y. cond (t y) (f y) y) xs x h)

has_first : {A : Type 0} (xs ys : List A) (x : A) → Has xs x → Has (xs ++ ys) x
has_first [] ys x h = absurd h
has_first (y ∷ xs) ys x (inl e) = inl e
has_first (y ∷ xs) ys x (inr k) = inr (has_first xs ys x k)

-- ---- a row that stays as it is, and a request that is held up

-- the classes stay, and the row
record Keeps (st : State) (row : Row) (k : State) : Type 0 where
  classes : k.classes ≡ st.classes
  there : Has k.rows row

-- the classes stay, and a row holds the request up
record Holds (st : State) (b : Blocked) (k : State) : Type 0 where
  classes : k.classes ≡ st.classes
  holds : list_any (held_for st.classes b) k.rows ≡ true

holds_kept : (st : State) (b : Blocked) (row : Row) (k : State) → held_for st.classes b row ≡ true → Keeps st row k → Holds st b k
holds_kept st b row k e h = record { classes = h.classes; holds = any_has (held_for st.classes b) k.rows row h.there e }

no_marks : (x : ℕ) (r : Row) → is_marked x r ≡ false → (is_caller r.writer x ≡ false) × (is_caller r.taker x ≡ false) × (contains r.readers x ≡ false)
no_marks x r e =
    let one = or_parts (is_caller r.writer x || is_caller r.taker x) (contains r.readers x) e in
    let two = or_parts (is_caller r.writer x) (is_caller r.taker x) one.0 in
    (two.0, two.1, one.1)

has_unread : (x : ℕ) (rows : List Row) (r : Row) → contains r.readers x ≡ false → Has rows r → Has (map (unread x) rows) r
has_unread x rows r e h = subst (λ y. Has (map (unread x) rows) y) (unread_same x r e) (has_mapped (unread x) rows r h)

has_aborted : (x : ℕ) (rows : List Row) (r : Row) → is_marked x r ≡ false → Has rows r → Has (aborted x rows) r
has_aborted x rows r e h =
    let m = no_marks x r e in
    let stays : Has (filter (λ row. not (is_caller row.writer x)) rows) r = has_kept (λ (row : Row). not (is_caller row.writer x)) rows r (rw m.0 refl) h in
    has_unread x _ r m.2 (has_updated (λ (row : Row). is_caller row.taker x) (λ (row : Row). record row { taker = None }) _ r m.1 stays)

has_committed : (x : ℕ) (rows : List Row) (r : Row) → is_marked x r ≡ false → Has rows r → Has (committed x rows) r
has_committed x rows r e h =
    let m = no_marks x r e in
    let stays : Has (filter (λ row. not (is_caller row.taker x)) rows) r = has_kept (λ (row : Row). not (is_caller row.taker x)) rows r (rw m.1 refl) h in
    has_unread x _ r m.2 (has_updated (λ (row : Row). is_caller row.writer x) (λ (row : Row). record row { writer = None }) _ r m.0 stays)

keeps_abort : (st : State) (row : Row) (x : ℕ) → is_marked x row ≡ false → Has st.rows row → Keeps st row (abort st x)
keeps_abort st row x e h = record { classes = refl; there = has_aborted x st.rows row e h }

keeps_commit : (st : State) (row : Row) (x : ℕ) → is_marked x row ≡ false → Has st.rows row → Keeps st row (commit st x)
keeps_commit st row x e h =
    fold_keeps (Keeps st row) (owe None) (λ b r k. record { classes = k.classes; there = k.there }) (published x st.rows) (record (forget st x) { rows = committed x st.rows })
    (record { classes = refl; there = has_committed x st.rows row e h })

keeps_remove : (st : State) (row : Row) (r : Rank) (n : ℕ) → is_marked n row ≡ false → (row.number == n) ≡ false → Has st.rows row → Keeps st row (remove st r n)
keeps_remove st row rank.Entry n m e h = record { classes = refl; there = has_kept (λ (r : Row). not (r.number == n)) st.rows row (rw e refl) h }
keeps_remove st row rank.Registration n m e h = record { classes = refl; there = h }
keeps_remove st row rank.Transaction n m e h = keeps_abort st row n m h
keeps_remove st row rank.Blocked n m e h = record { classes = refl; there = h }
keeps_remove st row rank.MatchSet n m e h = record { classes = refl; there = h }

keeps_cancel : (st : State) (row : Row) (lease : ℤ) → is_marked (named lease) row ≡ false → (row.number == named lease) ≡ false → Has st.rows row → Keeps st row (cancel st lease)
keeps_cancel st row lease m e h = go (rank_of st (named lease))
  where
    go : (o : Option Rank) → Keeps st row (option_map_or (λ r. remove st r (named lease)) o st)
    go None = record { classes = refl; there = h }
    go (Some r) = keeps_remove st row r (named lease) m e h

-- what stays over a part stays over all
keeps_further : (st k : State) (row : Row) (next : State) → Keeps st row k → Keeps k row next → Keeps st row next
keeps_further st k row next h x = record { classes = x.classes ∙ h.classes; there = x.there }

-- the lease is neither the row's nor that of a transaction that marks it
abbrev Spares : Row → ℤ → Type 0
Spares row lease = (is_marked (named lease) row ≡ false) × ((row.number == named lease) ≡ false)

keeps_cancels : (st : State) (row : Row) (leases : List ℤ) → list_any (λ l. is_marked (named l) row) leases ≡ false → list_any (λ l. row.number == named l) leases ≡ false → Has st.rows row → Keeps st row (fold cancel_one st leases)
keeps_cancels st row leases m e h =
    fold_keeps_each (Spares row) (Keeps st row) cancel_one
    (λ k l s g. choose (Keeps st row) (is_some (first_that (lease_tests k l))) k (cancel k l) g (keeps_further st k row (cancel k l) g (keeps_cancel k row l s.0 s.1 g.there)))
    leases (each_both (λ (l : ℤ). is_marked (named l) row ≡ false) (λ (l : ℤ). (row.number == named l) ≡ false) leases (each_not (λ (l : ℤ). is_marked (named l) row) leases m) (each_not (λ (l : ℤ). row.number == named l) leases e))
    st (record { classes = refl; there = h })

-- a vote takes marks from rows of its own space
keeps_vote : (st : State) (row : Row) (x space : ℕ) (o : Option Joined) → joined_at st x space ≡ o → frees st (step.Vote x space) row ≡ false → Has st.rows row → Keeps st row (option_map_or (cast st x) o st)
keeps_vote st row x space None k e h = record { classes = refl; there = h }
keeps_vote st row x space (Some j) k e h =
    let v : Bool = is_not_changed (vote_of st x j) in
    let unchanged : would_vote_not_changed st x space ≡ v = ap (λ o. option_map_or (λ (j : Joined). is_not_changed (vote_of st x j)) o false) k in
    let here : j.space ≡ space = eqb-true j.space space (found_has (λ (j : Joined). j.space == space) (joined_of st x) j k).1 in
    let f : (v && (row.space == j.space && is_marked x row)) ≡ false = ap (λ s. v && (row.space == s && is_marked x row)) here ∙ (ap (λ b. b && (row.space == space && is_marked x row)) (sym unchanged) ∙ e) in
    record { classes = refl; there = subst (λ y. Has (update (λ r. v && r.space == j.space) (unread x) st.rows) y) (same v (row.space == j.space) (is_marked x row) refl f) (has_mapped (λ r. cond (v && r.space == j.space) (unread x r) r) st.rows row h) }
  where
    same : (v d m : Bool) → is_marked x row ≡ m → (v && (d && m)) ≡ false → cond (v && d) (unread x row) row ≡ row
    same true true true q f = absurd (true≢false f)
    same true true false q f = unread_same x row (no_marks x row q).2
    same true false m q f = refl
    same false d m q f = refl

-- ---- leases that are renewed

held_ending : (st : State) (b : Blocked) (k : State) (end : ℕ) (r : Rank) (n : ℕ) → Holds st b k → Holds st b (extend k end r n)
held_ending st b k end rank.Entry n h = record { classes = h.classes; holds = any_updated (held_for st.classes b) (λ (r : Row). r.number == n) (λ (r : Row). record r { end = end }) (λ r e. e) k.rows h.holds }
held_ending st b k end rank.Registration n h = record { classes = h.classes; holds = h.holds }
held_ending st b k end rank.Transaction n h = record { classes = h.classes; holds = h.holds }
held_ending st b k end rank.Blocked n h = h
held_ending st b k end rank.MatchSet n h = record { classes = h.classes; holds = h.holds }

held_renewed : (st : State) (b : Blocked) (k : State) (lease ms : ℤ) → Holds st b k → Holds st b (renew k lease ms)
held_renewed st b k lease ms h = go (rank_of k (named lease))
  where
    go : (r : Option Rank) → Holds st b (option_map_or (λ r. extend k (k.time + ms_of ms) r (named lease)) r k)
    go None = h
    go (Some r) = held_ending st b k _ r (named lease) h

-- ---- rows that are given

-- what is nobody's holds nobody up
freed : (takes : Bool) (y t : Option ℕ) (readers : List ℕ) → is_none t ≡ true → list_all (is_caller None) readers ≡ true → (not (is_free y t) || (takes && not (list_all (is_caller y) readers))) ≡ false
freed true y None [] e h = refl
freed false y None [] e h = refl
freed takes y None (n ∷ ns) e h = absurd (true≢false (sym h))
freed takes y (Some t) readers e h = absurd (true≢false (sym e))

three : (a b d : Bool) → (a && (b && d)) ≡ true → (a ≡ true) × (b ≡ true) × (d ≡ true)
three true true true e = (refl, refl, refl)
three true true false e = absurd (true≢false (sym e))
three true false d e = absurd (true≢false (sym e))
three false b d e = absurd (true≢false (sym e))

-- where the row has no taker, the readers hold up
by_readers : (takes : Bool) (y t u : Option ℕ) (readers : List ℕ) → is_none t ≡ true → (not (is_free y t) || (takes && not (list_all (is_caller y) readers))) ≡ true → (not (is_free y u) || (takes && not (list_all (is_caller y) readers))) ≡ true
by_readers takes y None u readers e h = go (not (is_free y u)) h
  where
    go : (b : Bool) → (takes && not (list_all (is_caller y) readers)) ≡ true → (b || (takes && not (list_all (is_caller y) readers))) ≡ true
    go true h = refl
    go false h = h
by_readers takes y (Some t) u readers e h = absurd (true≢false (sym e))

all_front : (f : ℕ → Bool) (xs ys : List ℕ) → list_all f (xs ++ ys) ≡ true → list_all f xs ≡ true
all_front f [] ys h = refl
all_front f (x ∷ xs) ys h = let parts = and_parts (f x) (list_all f (xs ++ ys)) h in and_from (f x) (list_all f xs) parts.0 (all_front f xs ys parts.1)

all_before : (f : ℕ → Bool) (c : Bool) (x : ℕ) (xs : List ℕ) → list_all f (cond c xs (xs ++ x ∷ [])) ≡ true → list_all f xs ≡ true
all_before f true x xs h = h
all_before f false x xs h = all_front f xs (x ∷ []) h

-- one reader more holds up no less
one_reader_more : (taken takes l m : Bool) → (m ≡ true → l ≡ true) → (taken || (takes && not l)) ≡ true → (taken || (takes && not m)) ≡ true
one_reader_more true takes l m g h = refl
one_reader_more false true true m g h = absurd (true≢false (sym h))
one_reader_more false true false true g h = absurd (true≢false (sym (g refl)))
one_reader_more false true false false g h = refl
one_reader_more false false l m g h = absurd (true≢false (sym h))

module _ (classes : List Class) (b : Blocked) where
  -- what is given still holds up whom it held up
  given_holds : (given takes : Bool) (x : Option ℕ) (r : Row) → (given ≡ true → (cond takes (takeable x r) (readable x r)) ≡ true) → held_for classes b r ≡ true → list_any (held_for classes b) (after_giving given takes x r) ≡ true
  given_holds false takes x r g h = rw h refl
  given_holds true true None r g h =
      let free : (is_none r.taker && is_free None r.writer) ≡ true × (list_all (is_caller None) r.readers ≡ true) = and_parts (readable None r) (list_all (is_caller None) r.readers) (g refl) in
      let none : is_none r.taker ≡ true = (and_parts (is_none r.taker) (is_free None r.writer) free.0).0 in
      let held = three (wanted classes b r) (is_free b.transaction r.writer) (not (is_free b.transaction r.taker) || (is_take b.form && not (list_all (is_caller b.transaction) r.readers))) h in
      absurd (true≢false (sym held.2 ∙ freed (is_take b.form) b.transaction r.taker r.readers none free.1))
  given_holds true true (Some x) r g h =
      let free : (is_none r.taker && is_free (Some x) r.writer) ≡ true × (list_all (is_caller (Some x)) r.readers ≡ true) = and_parts (readable (Some x) r) (list_all (is_caller (Some x)) r.readers) (g refl) in
      let none : is_none r.taker ≡ true = (and_parts (is_none r.taker) (is_free (Some x) r.writer) free.0).0 in
      let held = three (wanted classes b r) (is_free b.transaction r.writer) (not (is_free b.transaction r.taker) || (is_take b.form && not (list_all (is_caller b.transaction) r.readers))) h in
      rw (held.0, held.1, by_readers (is_take b.form) b.transaction r.taker (Some x) r.readers none held.2) refl
  given_holds true false None r g h = rw h refl
  given_holds true false (Some x) r g h =
      let held = three (wanted classes b r) (is_free b.transaction r.writer) (not (is_free b.transaction r.taker) || (is_take b.form && not (list_all (is_caller b.transaction) r.readers))) h in
      let more : (not (is_free b.transaction r.taker) || (is_take b.form && not (list_all (is_caller b.transaction) (cond (contains r.readers x) r.readers (r.readers ++ x ∷ []))))) ≡ true =
      one_reader_more (not (is_free b.transaction r.taker)) (is_take b.form) (list_all (is_caller b.transaction) r.readers) (list_all (is_caller b.transaction) (cond (contains r.readers x) r.readers (r.readers ++ x ∷ [])))
      (all_before (is_caller b.transaction) (contains r.readers x) x r.readers) held.2 in
      rw (held.0, held.1, more) refl

free_part : (w d : Bool) → (w && d) ≡ true → d ≡ true
free_part true d e = e
free_part false d e = absurd (true≢false (sym e))

-- the rows of a choice are free for who chose
chosen_free : (st : State) (c : Blocked) (ns : List ℕ) → Rising row_number st.rows → is_choice st c ns ≡ true
    → Each (λ (r : Row). contains ns r.number ≡ true → cond (is_take c.form) (takeable c.transaction r) (readable c.transaction r) ≡ true) st.rows
chosen_free st c ns rise choice =
    each_weaker (Has st.rows) (λ (r : Row). contains ns r.number ≡ true → cond (is_take c.form) (takeable c.transaction r) (readable c.transaction r) ≡ true)
    (λ r h e. there r (available_row st c (λ (z : Row). z.number ≡ r.number → z ≡ r) r.number (only_one row_number st.rows rise r h) (each_numbers (contains (available st c)) ns r.number (choice_available st c ns choice) e)))
    st.rows (each_itself st.rows)
  where
    there : (r : Row) → (z : Row) × (z.number ≡ r.number → z ≡ r) × (z.number ≡ r.number) × (is_available st c z ≡ true) → cond (is_take c.form) (takeable c.transaction r) (readable c.transaction r) ≡ true
    there r (z, one, e, a) = subst (λ (q : Row). cond (is_take c.form) (takeable c.transaction q) (readable c.transaction q) ≡ true) (one e) (free_part (wanted st.classes c z) _ a)

-- the state to which they are given has the rows and the classes
holds_given : (st : State) (b c : Blocked) (ns : List ℕ) (k : State) → Rising row_number st.rows → is_choice st c ns ≡ true → k.rows ≡ st.rows → Holds st b k → Holds st b (give k c ns)
holds_given st b c ns k rise choice same h = record {
  classes = h.classes;
  holds = any_flat (held_for st.classes b) (λ r. after_giving (contains ns r.number) (is_take c.form) c.transaction r) k.rows
      (each_weaker (λ (r : Row). contains ns r.number ≡ true → cond (is_take c.form) (takeable c.transaction r) (readable c.transaction r) ≡ true) (λ r. held_for st.classes b r ≡ true → list_any (held_for st.classes b) (after_giving (contains ns r.number) (is_take c.form) c.transaction r) ≡ true)
      (λ r g e. given_holds st.classes b (contains ns r.number) (is_take c.form) c.transaction r g e) k.rows (subst (λ rows. Each (λ (r : Row). contains ns r.number ≡ true → cond (is_take c.form) (takeable c.transaction r) (readable c.transaction r) ≡ true) rows) (sym same) (chosen_free st c ns rise choice))) h.holds;
}

-- ---- requests

holds_sought : (st : State) (b : Blocked) (s id : ℕ) (x : RowRequest) (ns : List ℕ) → Rising row_number st.rows → is_choice st (as_blocked st s id x) ns ≡ true → Holds st b st → Holds st b (give_or_block st s id x ns)
holds_sought st b s id x ns rise choice h =
    let c = as_blocked st s id x in
    let j = joining st (caller_of x.txn) (place_of st x.space) in
    let k : State = record st { transactions = j.ts } in
    let joined : Holds st b k = record { classes = refl; holds = h.holds } in
    subst (λ k. Holds st b (cond (would_block st s id x) (block k c) (give k c ns))) (sym j.is)
    (choose (Holds st b) (would_block st s id x) (block k c) (give k c ns) (record { classes = refl; holds = h.holds }) (holds_given st b c ns k rise choice refl joined))

holds_written : (st : State) (b : Blocked) (w : WriteRequest) → Holds st b st → Holds st b (write st w)
holds_written st b w h =
    let j = joining st (caller_of w.txn) (place_of st w.space) in
    let k : State = record st { transactions = j.ts } in
    let more = added_all w w.entries k in
    subst (λ k. Holds st b (fold (λ b raw. add_row b (new_row b w raw)) k w.entries)) (sym j.is)
    (record { classes = more.classes; holds = subst (λ rows. list_any (held_for st.classes b) rows ≡ true) (sym more.rows) (any_first (held_for st.classes b) st.rows more.news h.holds) })

holds_registered : (st : State) (b : Blocked) (s : ℕ) (x : Notify) → Holds st b st → Holds st b (register st s x)
holds_registered st b s x h =
    let j = joining st (caller_of x.txn) (place_of st x.space) in
    subst (λ (k : State). Holds st b (record k { registrations = (register st s x).registrations; next_number = st.next_number + 1 })) (sym j.is) (record { classes = refl; holds = h.holds })

holds_listed : (st : State) (b : Blocked) (s : ℕ) (x : Contents) → Holds st b st → Holds st b (open_set st s x)
holds_listed st b s x h =
    let j = joining st (caller_of x.txn) (place_of st x.space) in
    subst (λ (k : State). Holds st b (record k { sets = (open_set st s x).sets; next_number = st.next_number + 1 })) (sym j.is) (record { classes = refl; holds = h.holds })

holds_accepted : (st : State) (b : Blocked) (row : Row) (s id : ℕ) (ns : List ℕ) (a : Ask) → Rising row_number st.rows → ask_ends_any st a ≡ false → has_its_rows st s id ns None (rows_asked a) ≡ true
    → held_for st.classes b row ≡ true → (ask_frees a row || ask_ends a row) ≡ false → Has st.rows row → Holds st b st → Holds st b (accepted st s id ns a)
holds_accepted st b row s id ns (ask.Declare d) rise e c w f i h = record { classes = ap (λ (b : Bool). cond b (st.classes ++ class_asked d ∷ []) st.classes) e; holds = h.holds }
holds_accepted st b row s id ns (ask.Write w) rise e c k f i h = holds_written st b (one_entry w) h
holds_accepted st b row s id ns (ask.Read x) rise e c w f i h = holds_sought st b s id (one_row form.Read x) ns rise c h
holds_accepted st b row s id ns (ask.ReadIf x) rise e c w f i h = holds_sought st b s id (one_row form.ReadIf x) ns rise c h
holds_accepted st b row s id ns (ask.Take x) rise e c w f i h = holds_sought st b s id (one_row form.Take x) ns rise c h
holds_accepted st b row s id ns (ask.TakeIf x) rise e c w f i h = holds_sought st b s id (one_row form.TakeIf x) ns rise c h
holds_accepted st b row s id ns (ask.Notify x) rise e c w f i h = holds_registered st b s x h
holds_accepted st b row s id ns (ask.Renew lease ms) rise e c w f i h = held_renewed st b st lease ms h
holds_accepted st b row s id ns (ask.Cancel lease) rise e c w f i h =
    let parts = or_parts (is_marked (named lease) row) (row.number == named lease) f in
    holds_kept st b row _ w (keeps_cancel st row lease parts.0 parts.1 i)
holds_accepted st b row s id ns (ask.RenewAll leases) rise e c w f i h = fold_keeps (Holds st b) renew_one (λ k l g. choose (Holds st b) (is_some (first_that (renew_tests k l.0 l.1))) k (renew k l.0 l.1) g (held_renewed st b k l.0 l.1 g)) leases st h
holds_accepted st b row s id ns (ask.CancelAll leases) rise e c w f i h =
    let parts = or_parts (list_any (λ (l : ℤ). is_marked (named l) row) leases) (list_any (λ (l : ℤ). row.number == named l) leases) f in
    holds_kept st b row _ w (keeps_cancels st row leases parts.0 parts.1 i)
holds_accepted st b row s id ns (ask.Txn lease) rise e c w f i h = record { classes = refl; holds = h.holds }
holds_accepted st b row s id ns (ask.Commit x) rise e c w f i h = record { classes = refl; holds = h.holds }
holds_accepted st b row s id ns (ask.Abort x) rise e c w f i h = holds_kept st b row _ w (keeps_abort st row (named x) (or_parts (is_marked (named x) row) false f).0 i)
holds_accepted st b row s id ns (ask.State x) rise e c w f i h = h
holds_accepted st b row s id ns (ask.Reset space) rise e c w f i h = absurd (true≢false e)
holds_accepted st b row s id ns ask.Spaces rise e c w f i h = h
holds_accepted st b row s id ns ask.Bye rise e c w f i h = record { classes = refl; holds = h.holds }
holds_accepted st b row s id ns (ask.Hello v) rise e c w f i h = record { classes = refl; holds = h.holds }
holds_accepted st b row s id ns (ask.WriteAll w) rise e c k f i h = holds_written st b (all_entries w) h
holds_accepted st b row s id ns (ask.TakeMany x) rise e c w f i h = holds_sought st b s id (many_rows x) ns rise c h
holds_accepted st b row s id ns (ask.Contents x) rise e c w f i h = holds_listed st b s x h
holds_accepted st b row s id ns (ask.Next set most) rise e c w f i h = record { classes = refl; holds = h.holds }
holds_accepted st b row s id ns (ask.CloseSet set) rise e c w f i h = record { classes = refl; holds = h.holds }

holds_asked : (st : State) (b : Blocked) (row : Row) (s id : ℕ) (ns : List ℕ) (a : Ask) (o : Option Refusal) → Rising row_number st.rows → ask_ends_any st a ≡ false → has_its_rows st s id ns o (rows_asked a) ≡ true
    → held_for st.classes b row ≡ true → (ask_frees a row || ask_ends a row) ≡ false → Has st.rows row → Holds st b st → Holds st b (after_ask st s id ns a o)
holds_asked st b row s id ns a None rise e c w f i h = holds_accepted st b row s id ns a rise e c w f i h
holds_asked st b row s id ns a (Some why) rise e c w f i h = h

-- ---- each step

holds_granted : (st : State) (b : Blocked) (n : ℕ) (ns : List ℕ) (o : Option Blocked) → Rising row_number st.rows → option_map_or (λ c. nat_lt 0 (length ns) && is_choice st c ns) o false ≡ true → Holds st b st → Holds st b (after_grant st n ns o)
holds_granted st b n ns None rise l h = h
holds_granted st b n ns (Some c) rise l h =
    let given : Holds st b (give st c ns) = holds_given st b c ns st rise (and_both (nat_lt 0 (length ns)) (is_choice st c ns) l).1 refl h in
    record { classes = given.classes; holds = given.holds }

marked_or : (m : Bool) → (m || false) ≡ false → m ≡ false
marked_or true e = e
marked_or false e = refl

holds_change : (st : State) (act : Step) (b : Blocked) (row : Row) → Rising row_number st.rows → is_legal st act ≡ true → ends_any st act ≡ false → held_for st.classes b row ≡ true → ends_conflict st act row ≡ false → Has st.rows row → Holds st b st → Holds st b (change st act)
unfolding is_legal
holds_change st (step.Open s) b row rise l e w f i h = record { classes = refl; holds = h.holds }
holds_change st (step.Shut s) b row rise l e w f i h = record { classes = refl; holds = h.holds }
holds_change st (step.Clock t) b row rise l e w f i h = record { classes = refl; holds = h.holds }
holds_change st (step.Ask s a ns) b row rise l e w f i h =
    holds_asked st b row s a.id ns a.ask (refusal st s a.id a.ask) rise e (fourth (is_open st s) (is_none (due st)) (are_quiet st (touches st (step.Ask s a ns))) (has_its_rows st s a.id ns (refusal st s a.id a.ask) (rows_asked a.ask)) l) w f i h
holds_change st (step.Fault s id why) b row rise l e w f i h = choose (Holds st b) (is_too_long why) (close st s) st (record { classes = refl; holds = h.holds }) h
holds_change st (step.Grant m ns) b row rise l e w f i h = holds_granted st b m ns (blocked_of st m) rise l h
holds_change st (step.Empty m) b row rise l e w f i h = record { classes = refl; holds = h.holds }
holds_change st (step.Tell m) b row rise l e w f i h = record { classes = refl; holds = h.holds }
holds_change st (step.Due item) b row rise l e w f i h =
    let parts = or_parts (is_marked item.number row) (row.number == item.number) f in
    holds_kept st b row _ w (keeps_remove st row item.rank item.number parts.0 parts.1 i)
holds_change st (step.Vote x space) b row rise l e w f i h = holds_kept st b row _ w (keeps_vote st row x space (joined_at st x space) refl (marked_or (frees st (step.Vote x space) row) f) i)
holds_change st (step.Decide x c) b row rise l e w f i h =
    let m : is_marked x row ≡ false = marked_or (is_marked x row) f in
    holds_kept st b row _ w (choose (Keeps st row) c (commit st x) (abort st x) (keeps_commit st row x m i) (keeps_abort st row x m i))
holds_change st (step.HandOut s m) b row rise l e w f i h = h

pub conflict_stays : (st : State) (act : Step) (b : Blocked) (row : Row) → Rising row_number st.rows → is_legal st act ≡ true → ends_any st act ≡ false → Has st.rows row → is_in_conflict st b row ≡ true → ends_conflict st act row ≡ false → has_conflict (next st act) b ≡ true
unfolding next
conflict_stays st act b row rise l e i w f =
    let now : Holds st b st = record { classes = refl; holds = any_has (held_for st.classes b) st.rows row i w } in
    let after : Holds st b (change st act) = holds_change st act b row rise l e w f i now in
    subst (λ classes. list_any (held_for classes b) (change st act).rows ≡ true) (sym after.classes) after.holds

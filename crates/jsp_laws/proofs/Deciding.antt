-- A decision changes all rows in its one step.
use Rattle.std.proofs.Common.{◌≡◌, refl, sym, ap, ◌∙◌, subst, ℕ, ℤ, List, [], ◌∷◌, map, filter, fold, Bool, true, false, not, cond, ◌||◌, ◌&&◌, ◌⊎◌, inl, inr, ⊎_elim, Option, Some, None, is_some, ◌==◌, eqb-true, eq-eqb, true≢false, find, is_none}
use Rattle.std.specs.List.{list_any}
use Rattle.std.specs.Option.{option_map_or}
use Rattle.std.proofs.lemmas.Bool.{not-true, not-false}
use Rattle.jsp_types.specs.Tests.{first_that}
use Rattle.jsp_wire.specs.declared.ask.Ask.{Ask}
use Rattle.jsp_wire.specs.declared.ask.Ask.TheVariants as ask
use Rattle.jsp_reply.specs.declared.refusal.Refusal.{Refusal}
use Rattle.jsp_lease.specs.declared.item.Rank.{Rank}
use Rattle.jsp_lease.specs.declared.item.Rank.TheVariants as rank
use Rattle.jsp_model.specs.declared.state.State.{State}
use Rattle.jsp_model.specs.declared.state.Outbox.{Outbox}
use Rattle.jsp_model.specs.declared.state.Row.{Row}
use Rattle.jsp_model.specs.declared.step.Step.{Step}
use Rattle.jsp_model.specs.declared.step.Step.TheVariants as step
use Rattle.jsp_model.specs.Lookup.{empty, named, contains, is_caller, is_living, is_voting, rank_of, joined_of}
use Rattle.jsp_model.specs.Refusals.{refusal, lease_tests, tests}
use Rattle.jsp_model.specs.Changes.{unread, owe, forget, abort, committed, published, commit, remove, cancel, cancel_one}
use Rattle.jsp_model.specs.Steps.{after_ask, next, is_legal, is_vote_to_abort}
use Rattle.jsp_model.specs.Runs.{Moment, IsRun}
use Rattle.jsp_model.specs.Laws.{commits as commits_test, aborts as aborts_test, ends}
use Rattle.jsp_laws.specs.Decisions.{published_by, CommitIsWhole, cancelled, is_aborted, falls, freed_in, AbortIsWhole, orders_abort, AbortEnds}
use Rattle.jsp_laws.proofs.Lists.{Each, each_weaker, each_any, fold_keeps}
use Rattle.jsp_laws.proofs.Living.{lives, lives_without}
use Rattle.jsp_laws.proofs.Change.{Kind, Change, transact, begins, aborts, commits, Changes, none, then_}
use Rattle.jsp_laws.proofs.Sound.{IsSound, Grows, grows_reshaped, grows_pushed, lives_rest, sound_empty, sound_changes}
use Rattle.jsp_laws.proofs.Made.{each_true, and_both, ask_aborts, kind_of, aborting_in, committed_by, cancel_changes, step_changes, Failed, is_none_none}
use Rattle.jsp_laws.proofs.Walk.{Legal, at_legal}
use Rattle.jsp_laws.proofs.Taken.{not_committed}
use Rattle.jsp_laws.proofs.Recorded.{committed_transactions}
use Rattle.jsp_laws.proofs.Votes.{voting_lives}
use Rattle.jsp_model.specs.declared.state.Transaction.{Transaction}
use Rattle.jsp_model.specs.declared.state.Joined.{Joined}
use Rattle.jsp_laws.proofs.Given.{refusal_failed}
use Rattle.jsp_laws.proofs.Joins.{dead_this}
use Rattle.jsp_laws.proofs.Alone.{Alone, RowsAlone, alone_changes, alone_at}
use Rattle.jsp_laws.proofs.Picked.{picked, picked_kept, map_twice, picked_twice, picked_alike}

-- ---- a commit

each_of : {A : Type 0} (P : A → Type 0) → ((x : A) → P x) → (xs : List A) → Each P xs
each_of P h xs = each_weaker (λ x. Unit {0}) P (λ x u. h x) xs (each_true xs)

rows_committed : (x : ℕ) (rows : List Row) → committed x rows ≡ map (published_by x) (filter (λ r. not (is_caller r.taker x)) rows)
rows_committed x rows =
    map_twice (unread x) (λ r. cond (is_caller r.writer x) (record r { writer = None }) r) (filter (λ r. not (is_caller r.taker x)) rows)
    ∙ picked_alike (λ r. not (is_caller r.taker x)) (λ r. not (is_caller r.taker x)) _ (published_by x) rows (each_of _ (λ r. (refl, same r (is_caller r.writer x))) rows)
  where
    same : (r : Row) (b : Bool) → unread x (cond b (record r { writer = None }) r) ≡ record r { writer = cond b None r.writer; readers = filter (λ y. not (y == x)) r.readers }
    same r true = refl
    same r false = refl

commit_rows : (st : State) (x : ℕ) → (commit st x).rows ≡ committed x st.rows
commit_rows st x = fold_keeps (λ (b : State). b.rows ≡ committed x st.rows) (owe None) (λ b row e. e) (published x st.rows) (record (forget st x) { rows = committed x st.rows }) refl

after_commit : (st : State) (act : Step) (x : ℕ) → commits_test x (record { state = st; step = act }) ≡ true → (next st act).rows ≡ map (published_by x) (filter (λ r. not (is_caller r.taker x)) st.rows)
unfolding next
after_commit st (step.Decide y true) x e =
    subst (λ z. (commit st y).rows ≡ map (published_by z) (filter (λ r. not (is_caller r.taker z)) st.rows)) (eqb-true y x e) (commit_rows st y ∙ rows_committed y st.rows)
after_commit st (step.Decide y false) x e = absurd (cc)
after_commit st _ x e = absurd (cc)

pub commit_is_whole : (names : List (List ℕ)) (steps : List Step) → IsRun (empty names) steps → CommitIsWhole (empty names) steps
commit_is_whole names steps run i x m a e = after_commit m.state m.step x e

-- ---- what is left where some transactions are aborted and some rows cancelled

-- this is one of them
abbrev held : (ℕ → Bool) → Option ℕ → Bool
held d o = option_map_or d o false

abbrev stays : (ℕ → Bool) → (ℕ → Bool) → Row → Bool
stays d c r = not (held d r.writer || c r.number)

abbrev loosed : (ℕ → Bool) → Row → Row
loosed d r = record r { taker = cond (held d r.taker) None r.taker; readers = filter (λ y. not (d y)) r.readers }

-- a state with what is left of another one
pub record Left (c : ℕ → Bool) (st after : State) : Type 0 where
  pub d : ℕ → Bool
  pub rows : after.rows ≡ picked (stays d c) (loosed d) st.rows
  pub ended : (x : ℕ) → lives after.transactions x ≡ (lives st.transactions x && not (d x))
  pub lived : (x : ℕ) → d x ≡ true → lives st.transactions x ≡ true

filter_alike : (d e : ℕ → Bool) → ((x : ℕ) → d x ≡ e x) → (xs : List ℕ) → filter d xs ≡ filter e xs
filter_alike d e h [] = refl
filter_alike d e h (x ∷ xs) = let rest : filter d xs ≡ filter e xs = filter_alike d e h xs in rw (h x, rest) refl

filter_twice : (d e : ℕ → Bool) (xs : List ℕ) → filter (λ y. not (e y)) (filter (λ y. not (d y)) xs) ≡ filter (λ y. not (d y || e y)) xs
filter_twice d e [] = refl
filter_twice d e (x ∷ xs) = go (d x) (e x) refl (filter_twice d e xs)
  where
    go : (a b : Bool) → e x ≡ b → filter (λ y. not (e y)) (filter (λ y. not (d y)) xs) ≡ filter (λ y. not (d y || e y)) xs
        → filter (λ y. not (e y)) (cond (not a) (x ∷ filter (λ y. not (d y)) xs) (filter (λ y. not (d y)) xs)) ≡ cond (not (a || b)) (x ∷ filter (λ y. not (d y || e y)) xs) (filter (λ y. not (d y || e y)) xs)
    go true b k ih = ih
    go false true k ih = rw k ih
    go false false k ih = rw k (ap (λ (ys : List ℕ). x ∷ ys) ih)

filter_none : (xs : List ℕ) → filter (λ y. not false) xs ≡ xs
filter_none [] = refl
filter_none (x ∷ xs) = ap (λ (ys : List ℕ). x ∷ ys) (filter_none xs)

abbrev with_marks : Row → Option ℕ → List ℕ → Row
with_marks r taker readers = record r { taker = taker; readers = readers }

same_marks : (r : Row) (t u : Option ℕ) (xs ys : List ℕ) → t ≡ u → xs ≡ ys → with_marks r t xs ≡ with_marks r u ys
same_marks r t u xs ys e f = ap (λ z. with_marks r z xs) e ∙ ap (λ z. with_marks r u z) f

-- ---- nothing is left out where there is nothing to leave out

held_none : (o : Option ℕ) → held (λ x. false) o ≡ false
held_none None = refl
held_none (Some x) = refl

loosed_none : (r : Row) → loosed (λ x. false) r ≡ r
loosed_none r = same_marks r _ r.taker _ r.readers (rw (held_none r.taker) refl) (filter_none r.readers)

stays_none : (c : ℕ → Bool) (r : Row) → stays (λ x. false) c r ≡ not (c r.number)
stays_none c r = rw (held_none r.writer) refl

and_true : (b : Bool) → b ≡ (b && true)
and_true true = refl
and_true false = refl

-- transactions as they were, and rows without those of this test
left_kept : (c t : ℕ → Bool) (st after : State) → after.transactions ≡ st.transactions → after.rows ≡ filter (λ (r : Row). not (t r.number)) st.rows → Each (λ (r : Row). t r.number ≡ c r.number) st.rows → Left c st after
left_kept c t st after e f k = record {
  d = λ x. false;
  rows = f ∙ sym (picked_kept (λ (r : Row). not (t r.number)) st.rows)
      ∙ picked_alike (λ (r : Row). not (t r.number)) (stays (λ x. false) c) (λ r. r) (loosed (λ x. false)) st.rows
      (each_weaker (λ (r : Row). t r.number ≡ c r.number) _ (λ r q. (ap not q ∙ sym (stays_none c r), sym (loosed_none r))) st.rows k);
  ended = λ x. ap (λ ts. lives ts x) e ∙ and_true (lives st.transactions x);
  lived = λ x q. absurd (cc);
}

keep_all : {A : Type 0} (xs : List A) → xs ≡ filter (λ x. not false) xs
keep_all [] = refl
keep_all {A = A} (x ∷ xs) = ap (λ (ys : List A). x ∷ ys) (keep_all xs)

-- the same rows
left_same : (c : ℕ → Bool) (st after : State) → after.transactions ≡ st.transactions → after.rows ≡ st.rows → Each (λ (r : Row). c r.number ≡ false) st.rows → Left c st after
left_same c st after e f k = left_kept c (λ n. false) st after e (f ∙ keep_all st.rows) (each_weaker (λ (r : Row). c r.number ≡ false) _ (λ r q. sym q) st.rows k)

-- ---- one transaction is aborted

abbrev this : ℕ → ℕ → Bool
this x y = y == x

held_this : (x : ℕ) (o : Option ℕ) → is_caller o x ≡ held (this x) o
held_this x None = refl
held_this x (Some y) = refl

left_aborted : (c : ℕ → Bool) (st : State) (x : ℕ) → lives st.transactions x ≡ true → Each (λ (r : Row). c r.number ≡ false) st.rows → Left c st (abort st x)
left_aborted c st x l k = record {
  d = this x;
  rows = map_twice (unread x) (λ r. cond (is_caller r.taker x) (record r { taker = None }) r) (filter (λ r. not (is_caller r.writer x)) st.rows)
      ∙ picked_alike (λ r. not (is_caller r.writer x)) (stays (this x) c) _ (loosed (this x)) st.rows
      (each_weaker (λ (r : Row). c r.number ≡ false) _ (λ r q. (written r q, taken r (is_caller r.taker x) (held_this x r.taker))) st.rows k);
  ended = λ y. lives_without x st.transactions y ∙ swap (y == x) (lives st.transactions y);
  lived = λ y e. subst (λ z. lives st.transactions z ≡ true) (sym (eqb-true y x e)) l;
}
  where
    written : (r : Row) → c r.number ≡ false → not (is_caller r.writer x) ≡ stays (this x) c r
    written r q = rw (q, held_this x r.writer) (ap not (or_false (held (this x) r.writer)))
      where
        or_false : (b : Bool) → b ≡ (b || false)
        or_false true = refl
        or_false false = refl

    taken : (r : Row) (b : Bool) → b ≡ held (this x) r.taker → unread x (cond b (record r { taker = None }) r) ≡ loosed (this x) r
    taken r true e = same_marks r None _ _ _ (rw (sym e) refl) refl
    taken r false e = same_marks r r.taker _ _ _ (rw (sym e) refl) refl

    swap : (a b : Bool) → (not a && b) ≡ (b && not a)
    swap true true = refl
    swap true false = refl
    swap false true = refl
    swap false false = refl

-- ---- one after the other

abbrev either : (ℕ → Bool) → (ℕ → Bool) → ℕ → Bool
either d e x = d x || e x

held_either : (d e : ℕ → Bool) (o : Option ℕ) → held (either d e) o ≡ (held d o || held e o)
held_either d e None = refl
held_either d e (Some x) = refl

loosed_twice : (d e : ℕ → Bool) (r : Row) → loosed e (loosed d r) ≡ loosed (either d e) r
loosed_twice d e r = same_marks r _ _ _ _ (go (held d r.taker) refl) (filter_twice d e r.readers)
  where
    go : (a : Bool) → held d r.taker ≡ a → cond (held e (cond a None r.taker)) None (cond a None r.taker) ≡ cond (held (either d e) r.taker) None r.taker
    go true k = rw (held_either d e r.taker, k) refl
    go false k = rw (held_either d e r.taker, k) refl

stays_twice : (d e c b : ℕ → Bool) (r : Row) → (stays d c r && stays e b (loosed d r)) ≡ stays (either d e) (either c b) r
stays_twice d e c b r = rw (held_either d e r.writer) (go (held d r.writer) (held e r.writer) (c r.number) (b r.number))
  where
    go : (p q s t : Bool) → (not (p || s) && not (q || t)) ≡ not ((p || q) || (s || t))
    go true q s t = refl
    go false true true t = refl
    go false true false t = refl
    go false false true t = refl
    go false false false t = refl

left_twice : {c b : ℕ → Bool} {st mid after : State} → Left c st mid → Left b mid after → Left (either c b) st after
left_twice {c = c} {b = b} {st = st} {mid = mid} {after = after} k h = record {
  d = either k.d h.d;
  rows = h.rows ∙ ap (λ rs. picked (stays h.d b) (loosed h.d) rs) k.rows ∙ picked_twice (stays k.d c) (stays h.d b) (loosed k.d) (loosed h.d) st.rows
      ∙ picked_alike _ _ _ _ st.rows (each_of _ (λ r. (stays_twice k.d h.d c b r, loosed_twice k.d h.d r)) st.rows);
  ended = λ x. h.ended x ∙ rw (k.ended x) (both (lives st.transactions x) (k.d x) (h.d x));
  lived = λ x e. go x (k.d x) refl e;
}
  where
    both : (a p q : Bool) → ((a && not p) && not q) ≡ (a && not (p || q))
    both true true q = refl
    both true false q = refl
    both false p q = refl

    go : (x : ℕ) (p : Bool) → k.d x ≡ p → (p || h.d x) ≡ true → lives st.transactions x ≡ true
    go x true e q = k.lived x e
    go x false e q = (and_both (lives st.transactions x) (not (k.d x)) (sym (k.ended x) ∙ h.lived x q)).0

left_by : {c b : ℕ → Bool} {st after : State} → ((n : ℕ) → c n ≡ b n) → Left c st after → Left b st after
left_by {c = c} {b = b} {st = st} e k = record {
  d = k.d;
  rows = k.rows ∙ picked_alike (stays k.d c) (stays k.d b) (loosed k.d) (loosed k.d) st.rows (each_of _ (λ r. (ap (λ z. not (held k.d r.writer || z)) (e r.number), refl)) st.rows);
  ended = k.ended;
  lived = k.lived;
}

-- ---- one lease is cancelled

-- what a number names, where it is no row's
left_removed : (st : State) (n : ℕ) (r : Rank) → r ≡ rank.Entry ⊎ (Each (λ (row : Row). (n == row.number) ≡ false) st.rows × (r ≡ rank.Transaction → lives st.transactions n ≡ true)) → Left (λ k. n == k) st (remove st r n)
left_removed st n rank.Entry h = left_kept (λ k. n == k) (λ k. k == n) st (remove st rank.Entry n) refl refl (each_of _ (λ (row : Row). turned row.number) st.rows)
  where
    turned : (k : ℕ) → (k == n) ≡ (n == k)
    turned k = go (k == n) (n == k) refl refl
      where
        go : (a b : Bool) → (k == n) ≡ a → (n == k) ≡ b → a ≡ b
        go true true e f = refl
        go false false e f = refl
        go true false e f = absurd (true≢false (sym (eq-eqb n k (sym (eqb-true k n e))) ∙ f))
        go false true e f = absurd (true≢false (sym (eq-eqb k n (sym (eqb-true n k f))) ∙ e))
left_removed st n rank.Transaction (inl e) = absurd (cc)
left_removed st n rank.Transaction (inr (h, l)) = left_aborted (λ k. n == k) st n (l refl) h
left_removed st n rank.Registration (inl e) = absurd (cc)
left_removed st n rank.Registration (inr (h, l)) = left_same (λ k. n == k) st (remove st rank.Registration n) refl refl h
left_removed st n rank.Blocked (inl e) = absurd (cc)
left_removed st n rank.Blocked (inr (h, l)) = left_same (λ k. n == k) st (remove st rank.Blocked n) refl refl h
left_removed st n rank.MatchSet (inl e) = absurd (cc)
left_removed st n rank.MatchSet (inr (h, l)) = left_same (λ k. n == k) st (remove st rank.MatchSet n) refl refl h

rank_lives : (a b l s : Bool) → cond a (Some rank.Entry) (cond b (Some rank.Registration) (cond l (Some rank.Transaction) (cond s (Some rank.MatchSet) None))) ≡ Some rank.Transaction → l ≡ true
rank_lives true b l s e = absurd (cc)
rank_lives false true l s e = absurd (cc)
rank_lives false false true s e = refl
rank_lives false false false true e = absurd (cc)
rank_lives false false false false e = absurd (cc)

-- no row has the number
no_row : (n : ℕ) (rows : List Row) → list_any (λ (r : Row). r.number == n) rows ≡ false → Each (λ (r : Row). (n == r.number) ≡ false) rows
no_row n [] e = tt
no_row n (r ∷ rows) e = go (r.number == n) refl e (no_row n rows)
  where
    go : (b : Bool) → (r.number == n) ≡ b → (b || list_any (λ (r : Row). r.number == n) rows) ≡ false → (list_any (λ (r : Row). r.number == n) rows ≡ false → Each (λ (r : Row). (n == r.number) ≡ false) rows)
        → ((n == r.number) ≡ false) × Each (λ (r : Row). (n == r.number) ≡ false) rows
    go true k q ih = absurd (cc)
    go false k q ih = (turned (n == r.number) refl, ih q)
      where
        turned : (d : Bool) → (n == r.number) ≡ d → d ≡ false
        turned false f = refl
        turned true f = absurd (true≢false (sym (eq-eqb r.number n (sym (eqb-true n r.number f))) ∙ k))

left_cancelled : (st : State) (lease : ℤ) → IsSound st → RowsAlone st → Left (λ k. named lease == k) st (cancel_one st lease)
left_cancelled st lease s alone = go (list_any (λ (r : Row). r.number == n) st.rows) refl
  where
    n : ℕ
    n = named lease

    refused : Bool
    refused = is_some (first_that (lease_tests st lease))

    -- the number of a row names no transaction, so that it isn't refused
    row_of : list_any (λ (r : Row). r.number == n) st.rows ≡ true → is_voting st n ≡ false
    row_of e =
        let found : (r : Row) × Alone st.transactions r × ((r.number == n) ≡ true) = each_any (Alone st.transactions) (λ (r : Row). r.number == n) st.rows alone e in
        let dead : lives st.transactions n ≡ false = subst (λ k. lives st.transactions k ≡ false) (eqb-true found.0.number n found.2) found.1 in
        unless (is_voting st n) refl dead
      where
        unless : (b : Bool) → is_voting st n ≡ b → lives st.transactions n ≡ false → b ≡ false
        unless false v d = refl
        unless true v d = absurd (true≢false (sym (voting_lives st n s v) ∙ d))

    by_rank : (o : Option Rank) → rank_of st n ≡ o → Each (λ (r : Row). (n == r.number) ≡ false) st.rows → Left (λ k. n == k) st (option_map_or (λ r. remove st r n) o st)
    by_rank None e k = left_same (λ k. n == k) st st refl refl k
    by_rank (Some r) e k = left_removed st n r (inr (k, λ q. rank_lives (list_any (λ r. r.number == n) st.rows) (list_any (λ r. r.number == n) st.registrations) (is_living st n) (list_any (λ m. m.number == n) st.sets) (e ∙ ap Some q)))

    unless_refused : (b : Bool) → Each (λ (r : Row). (n == r.number) ≡ false) st.rows → Left (λ k. n == k) st (cond b st (cancel st lease))
    unless_refused true k = left_same (λ k. n == k) st st refl refl k
    unless_refused false k = by_rank (rank_of st n) refl k

    go : (b : Bool) → list_any (λ (r : Row). r.number == n) st.rows ≡ b → Left (λ k. n == k) st (cancel_one st lease)
    go true e =
        let is : rank_of st n ≡ Some rank.Entry = rw e refl in
        let passes : cancel_one st lease ≡ remove st rank.Entry n = rw (is, row_of e) refl in
        subst (λ z. Left (λ k. n == k) st z) (sym passes) (left_removed st n rank.Entry (inl refl))
    go false e = unless_refused refused (no_row n st.rows e)

-- ---- several leases are cancelled together

sound_cancelled : (st : State) (lease : ℤ) → IsSound st → RowsAlone st → IsSound (cancel_one st lease) × RowsAlone (cancel_one st lease)
sound_cancelled st lease s k = go (is_some (first_that (lease_tests st lease)))
  where
    made : Changes (kind_of st (step.Decide 0 false)) st (cancel st lease)
    made = cancel_changes st lease refl refl

    go : (b : Bool) → IsSound (cond b st (cancel st lease)) × RowsAlone (cond b st (cancel st lease))
    go true = (s, k)
    go false = (sound_changes made s, alone_changes made s k)

left_all : (c : ℕ → Bool) (st mid : State) (leases : List ℤ) → IsSound mid → RowsAlone mid → Left c st mid → Left (λ k. c k || contains (map named leases) k) st (fold cancel_one mid leases)
left_all c st mid [] s a k = left_by (λ n. or_false (c n)) k
  where
    or_false : (b : Bool) → b ≡ (b || false)
    or_false true = refl
    or_false false = refl
left_all c st mid (lease ∷ leases) s a k =
    let after = sound_cancelled mid lease s a in
    left_by (λ n. joined (c n) (named lease == n) (contains (map named leases) n)) (left_all (either c (λ k. named lease == k)) st (cancel_one mid lease) leases after.0 after.1 (left_twice k (left_cancelled mid lease s a)))
  where
    joined : (p q r : Bool) → ((p || q) || r) ≡ (p || (q || r))
    joined true q r = refl
    joined false q r = refl

-- ---- each step

grows_change : {c : Kind} {st after : State} → c.committed ≡ None → c.aborting ≡ false → Change c st after → Grows st.transactions after.transactions
grows_change n a (transact e) = grows_reshaped e
grows_change {st = st} n a (begins t e j) = grows_pushed st.transactions t
grows_change n a (aborts x e z) = absurd (true≢false (sym z ∙ a))
grows_change {c = c} n a (commits x e) = let w : None ≡ Some x = sym n ∙ e in absurd (cc)
grows_change n a _ = λ x l. l

grows_changes : {c : Kind} {st after : State} → c.committed ≡ None → c.aborting ≡ false → Changes c st after → Grows st.transactions after.transactions
grows_changes n a none = λ x l. l
grows_changes n a (then_ k ks) = λ x l. grows_changes n a ks x (grows_change n a k x l)

-- what the step leaves, or no transaction ends
abbrev Fate : State → Step → State → Type 0
Fate st act after = Left (contains (cancelled (record { state = st; step = act }))) st after ⊎ Grows st.transactions after.transactions

fate_aborted : (st : State) (act : Step) (x : ℕ) → cancelled (record { state = st; step = act }) ≡ [] → Fate st act (abort st x)
fate_aborted st act x e = go (lives st.transactions x) refl
  where
    go : (b : Bool) → lives st.transactions x ≡ b → Fate st act (abort st x)
    go true l = inl (left_aborted (contains (cancelled (record { state = st; step = act }))) st x l (rw e (each_of (λ (r : Row). contains [] r.number ≡ false) (λ r. refl) st.rows)))
    go false l = inr (λ y k. lives_rest x y st.transactions k (other y k (y == x) refl))
      where
        other : (y : ℕ) → lives st.transactions y ≡ true → (b : Bool) → (y == x) ≡ b → b ≡ false
        other y k false e = refl
        other y k true e = absurd (true≢false (sym k ∙ subst (λ z. lives st.transactions z ≡ false) (sym (eqb-true y x e)) l))

fate_removed : (st : State) (act : Step) (r : Rank) (n : ℕ) → cancelled (record { state = st; step = act }) ≡ [] → Fate st act (remove st r n)
fate_removed st act rank.Entry n e = inr (λ x l. l)
fate_removed st act rank.Registration n e = inr (λ x l. l)
fate_removed st act rank.Transaction n e = fate_aborted st act n e
fate_removed st act rank.Blocked n e = inr (λ x l. l)
fate_removed st act rank.MatchSet n e = inr (λ x l. l)

fate_asked : (st : State) (s id : ℕ) (ns : List ℕ) (a : Ask) (o : Option Refusal) → IsSound st → RowsAlone st → ask_aborts a ≡ true → Fate st (step.Ask s (record { id = id; ask = a }) ns) (after_ask st s id ns a o)
fate_asked st s id ns a (Some r) z k e = inr (λ x l. l)
fate_asked st s id ns (ask.Abort x) None z k e = fate_aborted st (step.Ask s (record { id = id; ask = ask.Abort x }) ns) (named x) refl
fate_asked st s id ns (ask.Cancel lease) None z k e = go (rank_of st (named lease))
  where
    go : (o : Option Rank) → Fate st (step.Ask s (record { id = id; ask = ask.Cancel lease }) ns) (option_map_or (λ r. remove st r (named lease)) o st)
    go None = inr (λ x l. l)
    go (Some r) = fate_removed st (step.Ask s (record { id = id; ask = ask.Cancel lease }) ns) r (named lease) refl
fate_asked st s id ns (ask.CancelAll leases) None z k e =
    inl (left_by (λ n. refl) (left_all (λ n. false) st st leases z k (left_same (λ n. false) st st refl refl (each_of (λ (r : Row). false ≡ false) (λ r. refl) st.rows))))
fate_asked st s id ns _ None z k e = absurd (cc)

-- what is said changes neither
fate_said : (st : State) (act : Step) (after : State) → Fate st act after → (boxes : List Outbox) → Fate st act (record after { outboxes = boxes })
fate_said st act after (inl k) boxes = inl (record { d = k.d; rows = k.rows; ended = k.ended; lived = k.lived })
fate_said st act after (inr g) boxes = inr g

fate : (st : State) (act : Step) → IsSound st → RowsAlone st → committed_by act ≡ None → aborting_in act ≡ true → Fate st act (next st act)
unfolding next
fate st (step.Ask s a ns) z k n e = fate_said st (step.Ask s a ns) _ (fate_asked st s a.id ns a.ask (refusal st s a.id a.ask) z k e) _
fate st (step.Due item) z k n e = fate_said st (step.Due item) _ (fate_removed st (step.Due item) item.rank item.number refl) _
fate st (step.Decide x true) z k n e = absurd (cc)
fate st (step.Decide x false) z k n e = fate_said st (step.Decide x false) _ (fate_aborted st (step.Decide x false) x refl) _
fate st _ z k n e = absurd (cc)

-- a commit of another leaves it
stands_on : (st : State) (act : Step) (x y : ℕ) → committed_by act ≡ Some y → commits_test x (record { state = st; step = act }) ≡ false → lives st.transactions x ≡ true → lives (next st act).transactions x ≡ true
unfolding next
stands_on st (step.Decide z true) x y e c l = subst (λ ts. lives ts x ≡ true) (sym (committed_transactions st z)) (lives_rest z x st.transactions l (turned (x == z) refl))
  where
    turned : (b : Bool) → (x == z) ≡ b → b ≡ false
    turned false f = refl
    turned true f = absurd (true≢false (sym (eq-eqb z x (sym (eqb-true x z f))) ∙ c))
stands_on st (step.Decide z false) x y e c l = absurd (cc)
stands_on st _ x y e c l = absurd (cc)

-- ---- the law

left_whole : (m : Moment) → committed_by m.step ≡ None → Left (contains (cancelled m)) m.state (next m.state m.step) → (next m.state m.step).rows ≡ map (freed_in m) (filter (λ r. not (falls m r)) m.state.rows)
left_whole m n k =
    k.rows ∙ picked_alike (stays k.d (contains (cancelled m))) (λ r. not (falls m r)) (loosed k.d) (freed_in m) m.state.rows
    (each_of _ (λ r. (ap (λ b. not (b || contains (cancelled m) r.number)) (held_is r.writer), same_marks r _ _ _ _ (ap (λ b. cond b None r.taker) (held_is r.taker)) (filter_alike _ _ (λ y. ap not (ended_is y)) r.readers))) m.state.rows)
  where
    alone : (a d : Bool) → (d ≡ true → a ≡ true) → d ≡ (a && not (a && not d))
    alone true true h = refl
    alone true false h = refl
    alone false true h = absurd (true≢false (sym (h refl)))
    alone false false h = refl

    and_not : (b : Bool) → b ≡ (b && not false)
    and_not true = refl
    and_not false = refl

    ended_is : (y : ℕ) → k.d y ≡ aborts_test y m
    ended_is y = rw (not_committed m.step m.state y n, k.ended y) (alone (lives m.state.transactions y) (k.d y) (k.lived y) ∙ and_not _)

    held_is : (o : Option ℕ) → held k.d o ≡ is_aborted m o
    held_is None = refl
    held_is (Some y) = ended_is y

pub abort_is_whole : (names : List (List ℕ)) (steps : List Step) → IsRun (empty names) steps → AbortIsWhole (empty names) steps
abort_is_whole names steps run i x m a e =
    let two : (ends x m ≡ true) × (not (commits_test x m) ≡ true) = and_both (ends x m) (not (commits_test x m)) e in
    let ended : (is_living m.state x ≡ true) × (not (is_living (next m.state m.step) x) ≡ true) = and_both (is_living m.state x) (not (is_living (next m.state m.step) x)) two.0 in
    let gone : lives (next m.state m.step).transactions x ≡ false = not-true (is_living (next m.state m.step) x) ended.1 in
    by_commit ended.0 gone (not-true (commits_test x m) two.1) (committed_by m.step) refl
  where
    l : Legal m
    l = at_legal (empty names) steps run (sound_empty names) i m a

    Whole : Type 0
    Whole = (next m.state m.step).rows ≡ map (freed_in m) (filter (λ r. not (falls m r)) m.state.rows)

    never : lives m.state.transactions x ≡ true → lives (next m.state m.step).transactions x ≡ false → Grows m.state.transactions (next m.state m.step).transactions → Whole
    never lived gone g = absurd (true≢false (sym (g x lived) ∙ gone))

    by_abort : lives m.state.transactions x ≡ true → lives (next m.state m.step).transactions x ≡ false → committed_by m.step ≡ None → (b : Bool) → aborting_in m.step ≡ b → Whole
    by_abort lived gone n false q = never lived gone (grows_changes n q (step_changes m.state m.step l.legal l.sound))
    by_abort lived gone n true q = ⊎_elim (λ k. left_whole m n k) (λ g. never lived gone g) (fate m.state m.step l.sound (alone_at names steps run i m a) n q)

    by_commit : lives m.state.transactions x ≡ true → lives (next m.state m.step).transactions x ≡ false → commits_test x m ≡ false → (o : Option ℕ) → committed_by m.step ≡ o → Whole
    by_commit lived gone c None n = by_abort lived gone n (aborting_in m.step) refl
    by_commit lived gone c (Some y) n = absurd (true≢false (sym (stands_on m.state m.step x y n c lived) ∙ gone))

-- ---- an abort ends its transaction

joined_lives : (st : State) (t : Joined → Bool) (x : ℕ) → list_any t (joined_of st x) ≡ true → lives st.transactions x ≡ true
joined_lives st t x e = go (find (λ t. t.number == x) st.transactions) refl e
  where
    go : (o : Option Transaction) → find (λ t. t.number == x) st.transactions ≡ o → list_any t (option_map_or (λ t. t.joined) o []) ≡ true → lives st.transactions x ≡ true
    go None k q = absurd (cc)
    go (Some u) k q = ap is_some k

abbrev Ended : State → State → ℕ → Type 0
Ended st after x = (lives st.transactions x ≡ true) × (lives after.transactions x ≡ false)

asked_ends : (st : State) (s id : ℕ) (ns : List ℕ) (a : Ask) (x : ℕ) → orders_abort x (record { state = st; step = step.Ask s (record { id = id; ask = a }) ns }) ≡ true → Ended st (after_ask st s id ns a (refusal st s id a)) x
asked_ends st s id ns (ask.Abort y) x e =
    let two : (is_none (refusal st s id (ask.Abort y)) ≡ true) × ((named y == x) ≡ true) = and_both (is_none (refusal st s id (ask.Abort y))) (named y == x) e in
    let none : refusal st s id (ask.Abort y) ≡ None = is_none_none (refusal st s id (ask.Abort y)) two.0 in
    let f : Failed (tests st s id (ask.Abort y)) = refusal_failed st s id (ask.Abort y) none in
    let here : Ended st (abort st (named y)) (named y) = (not-false (is_living st (named y)) f.1.0, dead_this (named y) st.transactions) in
    let there : Ended st (after_ask st s id ns (ask.Abort y) (refusal st s id (ask.Abort y))) (named y) = subst (λ o. Ended st (after_ask st s id ns (ask.Abort y) o) (named y)) (sym none) here in
    subst (λ z. Ended st (after_ask st s id ns (ask.Abort y) (refusal st s id (ask.Abort y))) z) (eqb-true (named y) x two.1) there
asked_ends st s id ns a x e = absurd (and_false (is_none (refusal st s id a)) e)
  where
    and_false : (b : Bool) → (b && false) ≡ true → ⊥
    and_false true k = cc
    and_false false k = cc

ordered_ends : (st : State) (act : Step) (x : ℕ) → is_legal st act ≡ true → orders_abort x (record { state = st; step = act }) ≡ true → Ended st (next st act) x
unfolding is_legal next
ordered_ends st (step.Ask s a ns) x l e = asked_ends st s a.id ns a.ask x e
ordered_ends st (step.Decide y false) x l e = subst (λ z. Ended st (abort st y) z) (eqb-true y x e) (let w : Ended st (abort st y) y = (joined_lives st is_vote_to_abort y l, dead_this y st.transactions) in w)
ordered_ends st (step.Decide y true) x l e = absurd (cc)
ordered_ends st _ x l e = absurd (cc)

pub abort_ends : (names : List (List ℕ)) (steps : List Step) → IsRun (empty names) steps → AbortEnds (empty names) steps
abort_ends names steps run i x m a e =
    let l : Legal m = at_legal (empty names) steps run (sound_empty names) i m a in
    let both : Ended m.state (next m.state m.step) x = ordered_ends m.state m.step x l.legal e in
    rw (both.0, both.1) refl

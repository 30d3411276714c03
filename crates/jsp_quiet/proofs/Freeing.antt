-- Where the rows come from that a request may be given after a step.
use Rattle.std.proofs.Common.{◌≡◌, refl, sym, ◌∙◌, ap, subst, ℕ, ℤ, ◌+◌, ◌≤◌, ◌⊎◌, inl, inr, List, [], ◌∷◌, ◌++◌, Bool, true, false, not, cond, ◌||◌, ◌&&◌, filter, fold, Option, Some, None, is_some, ◌==◌, eqb-true, true≢false}
use Rattle.std.specs.List.{list_any, list_all}
use Rattle.std.specs.Option.{option_map_or}
use Rattle.std.proofs.lemmas.Bool.{and_parts, and_from}
use Rattle.jsp_types.specs.declared.class.Class.{Class}
use Rattle.jsp_types.specs.Classes.{is_new, declared}
use Rattle.jsp_types.specs.Tests.{first_that}
use Rattle.jsp_wire.specs.declared.ask.Ask.{Ask}
use Rattle.jsp_wire.specs.declared.ask.Ask.TheVariants as ask
use Rattle.jsp_wire.specs.declared.ask.Notify.{Notify}
use Rattle.jsp_wire.specs.declared.ask.Contents.{Contents}
use Rattle.jsp_reply.specs.declared.refusal.Refusal.{Refusal}
use Rattle.jsp_model.specs.declared.state.State.{State}
use Rattle.jsp_model.specs.declared.state.Row.{Row}
use Rattle.jsp_model.specs.declared.state.Blocked.{Blocked}
use Rattle.jsp_model.specs.declared.state.Joined.{Joined}
use Rattle.jsp_model.specs.declared.state.Form.TheVariants as form
use Rattle.jsp_lease.specs.declared.item.Rank.{Rank}
use Rattle.jsp_lease.specs.declared.item.Rank.TheVariants as rank
use Rattle.jsp_lease.specs.Granted.{ms_of}
use Rattle.jsp_model.specs.declared.step.Step.{Step}
use Rattle.jsp_model.specs.declared.step.Step.TheVariants as step
use Rattle.jsp_model.specs.Lookup.{update, contains, named, is_caller, rank_of, joined_at, joined_of, blocked_of}
use Rattle.jsp_model.specs.Sight.{is_take, readable, is_available}
use Rattle.jsp_model.specs.Refusals.{refusal, renew_tests, lease_tests}
use Rattle.jsp_model.specs.Requests.{WriteRequest, RowRequest, one_entry, all_entries, one_row, many_rows, as_blocked, would_block, class_asked, caller_of, place_of}
use Rattle.jsp_model.specs.Changes.{owe, add_row, new_row, write, give, block, give_or_block, register, open_set, close, unread, forget, committed, published, commit, aborted, abort, is_not_changed, vote_of, cast, remove, extend, renew, renew_one, cancel, cancel_one, accepted}
use Rattle.jsp_model.specs.Steps.{after_ask, is_too_long, after_grant, change, next}
use Rattle.jsp_laws.proofs.Lists.{Each, Has, each_weaker, each_filter, each_map, each_update, each_touched, each_append, each_flat, each_has, each_itself, found_has, fold_keeps, fold_keeps_each}
use Rattle.jsp_laws.proofs.Sound.{after_giving}
use Rattle.jsp_quiet.specs.Waking.{is_marked}
use Rattle.jsp_quiet.specs.Freeing.{would_vote_not_changed, frees, ask_frees, ask_frees_any, frees_any, WasThere}
use Rattle.jsp_quiet.proofs.Lists.{any_has}
use Rattle.jsp_quiet.proofs.Still.{wanted, free_for}
use Rattle.jsp_quiet.proofs.Spaces.{joining}
use Rattle.jsp_quiet.proofs.Placed.{choose}
use Rattle.jsp_quiet.proofs.Moves.{unread_same}
use Rattle.jsp_quiet.proofs.Waking.{Added, added_all}

-- ---- a row that stood before

record Came (st : State) (o : Row → Bool) (r : Row) : Type 0 where
  was : Row
  there : Has st.rows was
  number : was.number ≡ r.number
  free : (o was ≡ true) ⊎ ((b : Blocked) → free_for st.classes b r ≡ true → free_for st.classes b was ≡ true)

-- it is new, or stood before
abbrev Comes : State → (Row → Bool) → Row → Type 0
Comes st o r = (st.next_number ≤ r.number) ⊎ Came st o r

-- the classes stay, and so each row comes
record From (st : State) (o : Row → Bool) (k : State) : Type 0 where
  classes : k.classes ≡ st.classes
  rows : Each (Comes st o) k.rows

stood : (st : State) (o : Row → Bool) → Each (Comes st o) st.rows
stood st o = each_weaker (Has st.rows) (Comes st o) (λ r h. inr (record { was = r; there = h; number = refl; free = inr (λ b k. k) })) st.rows (each_itself st.rows)

from_none : (st : State) (o : Row → Bool) → From st o st
from_none st o = record { classes = refl; rows = stood st o }

-- the row is as free as before, or less
comes_as : (st : State) (o : Row → Bool) (r q : Row) → q.number ≡ r.number → ((b : Blocked) → free_for st.classes b q ≡ true → free_for st.classes b r ≡ true) → Comes st o r → Comes st o q
comes_as st o r q n f (inl l) = inl (subst (λ m. st.next_number ≤ m) (sym n) l)
comes_as st o r q n f (inr c) = inr (record { was = c.was; there = c.there; number = c.number ∙ sym n; free = go c.free })
  where
    go : ((o c.was ≡ true) ⊎ ((b : Blocked) → free_for st.classes b r ≡ true → free_for st.classes b c.was ≡ true)) → (o c.was ≡ true) ⊎ ((b : Blocked) → free_for st.classes b q ≡ true → free_for st.classes b c.was ≡ true)
    go (inl k) = inl k
    go (inr g) = inr (λ b k. g b (f b k))

-- ---- rows that are given

never : (w t : Bool) → (w && cond t false false) ≡ false
never true true = refl
never true false = refl
never false t = refl

fewer : (w t a l m : Bool) → (m ≡ true → l ≡ true) → (w && cond t (a && m) a) ≡ true → (w && cond t (a && l) a) ≡ true
fewer true true true l m h k = h k
fewer true true false l m h k = k
fewer true false a l m h k = k
fewer false t a l m h k = k

all_front : (f : ℕ → Bool) (xs ys : List ℕ) → list_all f (xs ++ ys) ≡ true → list_all f xs ≡ true
all_front f [] ys h = refl
all_front f (x ∷ xs) ys h = let parts = and_parts (f x) (list_all f (xs ++ ys)) h in and_from (f x) (list_all f xs) parts.0 (all_front f xs ys parts.1)

all_before : (f : ℕ → Bool) (c : Bool) (x : ℕ) (xs : List ℕ) → list_all f (cond c xs (xs ++ x ∷ [])) ≡ true → list_all f xs ≡ true
all_before f true x xs h = h
all_before f false x xs h = all_front f xs (x ∷ []) h

given_comes : (st : State) (o : Row → Bool) (b takes : Bool) (x : Option ℕ) (r : Row) → Comes st o r → Each (Comes st o) (after_giving b takes x r)
given_comes st o true true None r c = tt
given_comes st o true true (Some x) r c = (comes_as st o r (record r { taker = Some x }) refl (λ b k. absurd (true≢false (sym k ∙ never (wanted st.classes b r) (is_take b.form)))) c, tt)
given_comes st o true false None r c = (c, tt)
given_comes st o true false (Some x) r c = (
  comes_as st o r (record r { readers = cond (contains r.readers x) r.readers (r.readers ++ x ∷ []) }) refl
      (λ b k. fewer (wanted st.classes b r) (is_take b.form) (readable b.transaction r) (list_all (is_caller b.transaction) r.readers) (list_all (is_caller b.transaction) (cond (contains r.readers x) r.readers (r.readers ++ x ∷ []))) (all_before (is_caller b.transaction) (contains r.readers x) x r.readers) k) c,
  tt,
)
given_comes st o false takes x r c = (c, tt)

from_give : (st : State) (o : Row → Bool) (k : State) (b : Blocked) (ns : List ℕ) → From st o k → From st o (give k b ns)
from_give st o k b ns h = record { classes = h.classes; rows = each_flat (Comes st o) (Comes st o) _ (λ r c. given_comes st o (contains ns r.number) (is_take b.form) b.transaction r c) k.rows h.rows }

-- ---- marks of a transaction that go

-- the row is new, or stood before, and is as it was unless it passes the test
record Kept (st : State) (o : Row → Bool) (r : Row) : Type 0 where
  was : Row
  there : Has st.rows was
  number : was.number ≡ r.number
  same : (o was ≡ true) ⊎ (r ≡ was)

kept_all : (st : State) (o : Row → Bool) → Each (Kept st o) st.rows
kept_all st o = each_weaker (Has st.rows) (Kept st o) (λ r h. record { was = r; there = h; number = refl; same = inr refl }) st.rows (each_itself st.rows)

kept_marked : (st : State) (o : Row → Bool) (r q : Row) → q.number ≡ r.number → o r ≡ true → Kept st o r → Kept st o q
kept_marked st o r q n m c = record { was = c.was; there = c.there; number = c.number ∙ sym n; same = inl (go c.same) }
  where
    go : ((o c.was ≡ true) ⊎ (r ≡ c.was)) → o c.was ≡ true
    go (inl k) = k
    go (inr e) = subst (λ q. o q ≡ true) e m

by_first : (a b d : Bool) → a ≡ true → (a || b || d) ≡ true
by_first true b d e = refl
by_first false b d e = absurd (true≢false (sym e))

by_second : (a b d : Bool) → b ≡ true → (a || b || d) ≡ true
by_second true b d e = refl
by_second false true d e = refl
by_second false false d e = absurd (true≢false (sym e))

by_third : (a b d : Bool) → d ≡ true → (a || b || d) ≡ true
by_third true b d e = refl
by_third false true d e = refl
by_third false false d e = e

by_reader : (x : ℕ) (r : Row) → contains r.readers x ≡ true → is_marked x r ≡ true
by_reader x r e = by_third (is_caller r.writer x) (is_caller r.taker x) (contains r.readers x) e

kept_unread : (st : State) (o : Row → Bool) (x : ℕ) (r : Row) → (contains r.readers x ≡ true → o r ≡ true) → Kept st o r → Kept st o (unread x r)
kept_unread st o x r m c = go (contains r.readers x) refl
  where
    go : (b : Bool) → contains r.readers x ≡ b → Kept st o (unread x r)
    go true e = kept_marked st o r (unread x r) refl (m e) c
    go false e = subst (Kept st o) (sym (unread_same x r e)) c

-- where what the transaction marks passes the test
kept_aborted : (st : State) (o : Row → Bool) (x : ℕ) → ((r : Row) → is_marked x r ≡ true → o r ≡ true) → (rows : List Row) → Each (Kept st o) rows → Each (Kept st o) (aborted x rows)
kept_aborted st o x marks rows h =
    let stay : Each (Kept st o) (filter (λ row. not (is_caller row.writer x)) rows) = each_filter (Kept st o) _ rows h in
    let back : Each (Kept st o) (update (λ row. is_caller row.taker x) (λ (row : Row). record row { taker = None }) (filter (λ row. not (is_caller row.writer x)) rows)) =
    each_update (Kept st o) (Kept st o) (λ row. is_caller row.taker x) (λ (row : Row). record row { taker = None })
    (λ r e c. kept_marked st o r (record r { taker = None }) refl (marks r (by_second (is_caller r.writer x) (is_caller r.taker x) (contains r.readers x) e)) c) (λ r e c. c) _ stay in
    each_map (Kept st o) (Kept st o) (unread x) (λ r c. kept_unread st o x r (λ k. marks r (by_reader x r k)) c) _ back

kept_committed : (st : State) (x : ℕ) → Each (Kept st (is_marked x)) (committed x st.rows)
kept_committed st x =
    let o : Row → Bool = is_marked x in
    let stay : Each (Kept st o) (filter (λ row. not (is_caller row.taker x)) st.rows) = each_filter (Kept st o) _ st.rows (kept_all st o) in
    let out : Each (Kept st o) (update (λ row. is_caller row.writer x) (λ (row : Row). record row { writer = None }) (filter (λ row. not (is_caller row.taker x)) st.rows)) =
    each_update (Kept st o) (Kept st o) (λ row. is_caller row.writer x) (λ (row : Row). record row { writer = None })
    (λ r e c. kept_marked st o r (record r { writer = None }) refl (by_first (is_caller r.writer x) (is_caller r.taker x) (contains r.readers x) e) c) (λ r e c. c) _ stay in
    each_map (Kept st o) (Kept st o) (unread x) (λ r c. kept_unread st o x r (by_reader x r) c) _ out

kept_comes : (st : State) (o : Row → Bool) (rows : List Row) → Each (Kept st o) rows → Each (Comes st o) rows
kept_comes st o rows h = each_weaker (Kept st o) (Comes st o) (λ r c. inr (record { was = c.was; there = c.there; number = c.number; free = go r c.was c.same })) rows h
  where
    go : (r was : Row) → ((o was ≡ true) ⊎ (r ≡ was)) → (o was ≡ true) ⊎ ((b : Blocked) → free_for st.classes b r ≡ true → free_for st.classes b was ≡ true)
    go r was (inl m) = inl m
    go r was (inr e) = inr (λ b k. subst (λ q. free_for st.classes b q ≡ true) e k)

from_abort : (st : State) (x : ℕ) → From st (is_marked x) (abort st x)
from_abort st x = record { classes = refl; rows = kept_comes st (is_marked x) (aborted x st.rows) (kept_aborted st (is_marked x) x (λ r e. e) st.rows (kept_all st (is_marked x))) }

from_commit : (st : State) (x : ℕ) → From st (is_marked x) (commit st x)
from_commit st x =
    fold_keeps (From st (is_marked x)) (owe None) (λ b r k. record { classes = k.classes; rows = k.rows }) (published x st.rows) (record (forget st x) { rows = committed x st.rows })
    (record { classes = refl; rows = kept_comes st (is_marked x) (committed x st.rows) (kept_committed st x) })

-- a vote lets rows of its own space go
from_vote : (st : State) (x space : ℕ) (o : Option Joined) → joined_at st x space ≡ o → From st (frees st (step.Vote x space)) (option_map_or (cast st x) o st)
from_vote st x space None k = from_none st (frees st (step.Vote x space))
from_vote st x space (Some j) k =
    let v = is_not_changed (vote_of st x j) in
    let o : Row → Bool = frees st (step.Vote x space) in
    let unchanged : (b : Bool) → v ≡ b → would_vote_not_changed st x space ≡ b = λ b e. ap (λ o. option_map_or (λ (j : Joined). is_not_changed (vote_of st x j)) o false) k ∙ e in
    let here : j.space ≡ space = eqb-true j.space space (found_has (λ (j : Joined). j.space == space) (joined_of st x) j k).1 in
    record {
      classes = refl;
      rows = kept_comes st o _
          (each_update (Kept st o) (Kept st o) (λ row. v && row.space == j.space) (unread x)
          (λ r e c. kept_unread st o x r
          (λ m. and_from (would_vote_not_changed st x space) (r.space == space && is_marked x r) (unchanged true (and_parts v (r.space == j.space) e).0)
          (and_from (r.space == space) (is_marked x r) (subst (λ s. (r.space == s) ≡ true) here (and_parts v (r.space == j.space) e).1) (by_reader x r m))) c)
          (λ r e c. c) st.rows (kept_all st o));
    }

-- ---- leases

from_remove : (st : State) (r : Rank) (n : ℕ) → From st (is_marked n) (remove st r n)
from_remove st rank.Entry n = record { classes = refl; rows = each_filter (Comes st (is_marked n)) _ st.rows (stood st (is_marked n)) }
from_remove st rank.Registration n = record { classes = refl; rows = stood st (is_marked n) }
from_remove st rank.Transaction n = from_abort st n
from_remove st rank.Blocked n = record { classes = refl; rows = stood st (is_marked n) }
from_remove st rank.MatchSet n = record { classes = refl; rows = stood st (is_marked n) }

from_extend : (st : State) (o : Row → Bool) (k : State) (end : ℕ) (r : Rank) (n : ℕ) → From st o k → From st o (extend k end r n)
from_extend st o k end rank.Entry n h = record {
  classes = h.classes;
  rows = each_touched (Comes st o) (λ row. row.number == n) (λ (row : Row). record row { end = end }) (λ r c. comes_as st o r (record r { end = end }) refl (λ b k. k) c) k.rows h.rows;
}
from_extend st o k end rank.Registration n h = record { classes = h.classes; rows = h.rows }
from_extend st o k end rank.Transaction n h = record { classes = h.classes; rows = h.rows }
from_extend st o k end rank.Blocked n h = h
from_extend st o k end rank.MatchSet n h = record { classes = h.classes; rows = h.rows }

from_renew : (st : State) (o : Row → Bool) (k : State) (lease ms : ℤ) → From st o k → From st o (renew k lease ms)
from_renew st o k lease ms h = go (rank_of k (named lease))
  where
    go : (r : Option Rank) → From st o (option_map_or (λ r. extend k (k.time + ms_of ms) r (named lease)) r k)
    go None = h
    go (Some r) = from_extend st o k _ r (named lease) h

from_cancel : (st : State) (lease : ℤ) → From st (is_marked (named lease)) (cancel st lease)
from_cancel st lease = go (rank_of st (named lease))
  where
    go : (r : Option Rank) → From st (is_marked (named lease)) (option_map_or (λ r. remove st r (named lease)) r st)
    go None = from_none st (is_marked (named lease))
    go (Some r) = from_remove st r (named lease)

-- the classes stay, and each row is as it was, or passes the test
record KeptIn (st : State) (o : Row → Bool) (k : State) : Type 0 where
  classes : k.classes ≡ st.classes
  rows : Each (Kept st o) k.rows

kept_remove : (st : State) (o : Row → Bool) (k : State) (r : Rank) (n : ℕ) → ((row : Row) → is_marked n row ≡ true → o row ≡ true) → KeptIn st o k → KeptIn st o (remove k r n)
kept_remove st o k rank.Entry n marks h = record { classes = h.classes; rows = each_filter (Kept st o) _ k.rows h.rows }
kept_remove st o k rank.Registration n marks h = record { classes = h.classes; rows = h.rows }
kept_remove st o k rank.Transaction n marks h = record { classes = h.classes; rows = kept_aborted st o n marks k.rows h.rows }
kept_remove st o k rank.Blocked n marks h = record { classes = h.classes; rows = h.rows }
kept_remove st o k rank.MatchSet n marks h = record { classes = h.classes; rows = h.rows }

kept_cancel : (st : State) (o : Row → Bool) (k : State) (lease : ℤ) → ((row : Row) → is_marked (named lease) row ≡ true → o row ≡ true) → KeptIn st o k → KeptIn st o (cancel k lease)
kept_cancel st o k lease marks h = go (rank_of k (named lease))
  where
    go : (r : Option Rank) → KeptIn st o (option_map_or (λ r. remove k r (named lease)) r k)
    go None = h
    go (Some r) = kept_remove st o k r (named lease) marks h

-- those that are cancelled together let go what each lets go
from_cancels : (st : State) (leases : List ℤ) → From st (λ row. list_any (λ l. is_marked (named l) row) leases) (fold cancel_one st leases)
from_cancels st leases =
    let o : Row → Bool = λ row. list_any (λ l. is_marked (named l) row) leases in
    let one : Each (λ (l : ℤ). (row : Row) → is_marked (named l) row ≡ true → o row ≡ true) leases =
    each_weaker (Has leases) (λ (l : ℤ). (row : Row) → is_marked (named l) row ≡ true → o row ≡ true) (λ l h row m. any_has (λ (l : ℤ). is_marked (named l) row) leases l h m) leases (each_itself leases) in
    let all : KeptIn st o (fold cancel_one st leases) =
    fold_keeps_each (λ (l : ℤ). (row : Row) → is_marked (named l) row ≡ true → o row ≡ true) (KeptIn st o) cancel_one
    (λ k l marks h. choose (KeptIn st o) (is_some (first_that (lease_tests k l))) k (cancel k l) h (kept_cancel st o k l marks h)) leases one st (record { classes = refl; rows = kept_all st o }) in
    record { classes = all.classes; rows = kept_comes st o (fold cancel_one st leases).rows all.rows }

-- ---- requests

-- a step that lets none go
abbrev no_row : Row → Bool
no_row row = false

from_added : (st : State) (o : Row → Bool) (a b : State) → a.rows ≡ st.rows → a.classes ≡ st.classes → a.next_number ≡ st.next_number → Added a b → From st o b
from_added st o a b e c n k =
    let news : Each (Comes st o) k.news = each_weaker (λ (r : Row). a.next_number ≤ r.number) (Comes st o) (λ r l. inl (subst (λ m. m ≤ r.number) n l)) k.news k.numbers in
    let olds : Each (Comes st o) a.rows = subst (Each (Comes st o)) (sym e) (stood st o) in
    record { classes = k.classes ∙ c; rows = subst (Each (Comes st o)) (sym k.rows) (each_append (Comes st o) a.rows k.news olds news) }

from_write : (st : State) (o : Row → Bool) (w : WriteRequest) → From st o (write st w)
from_write st o w =
    let j = joining st (caller_of w.txn) (place_of st w.space) in
    let k : State = record st { transactions = j.ts } in
    subst (λ k. From st o (fold (λ b raw. add_row b (new_row b w raw)) k w.entries)) (sym j.is)
    (from_added st o k _ refl refl refl (added_all w w.entries k))

from_seek : (st : State) (o : Row → Bool) (s id : ℕ) (x : RowRequest) (ns : List ℕ) → From st o (give_or_block st s id x ns)
from_seek st o s id x ns =
    let b = as_blocked st s id x in
    let j = joining st (caller_of x.txn) (place_of st x.space) in
    let k : State = record st { transactions = j.ts } in
    let h : From st o k = record { classes = refl; rows = stood st o } in
    subst (λ k. From st o (cond (would_block st s id x) (block k b) (give k b ns))) (sym j.is)
    (choose (From st o) (would_block st s id x) (block k b) (give k b ns) (record { classes = refl; rows = stood st o }) (from_give st o k b ns h))

from_register : (st : State) (o : Row → Bool) (s : ℕ) (x : Notify) → From st o (register st s x)
from_register st o s x =
    let j = joining st (caller_of x.txn) (place_of st x.space) in
    subst (λ (k : State). From st o (record k { registrations = (register st s x).registrations; next_number = st.next_number + 1 })) (sym j.is) (record { classes = refl; rows = stood st o })

from_open_set : (st : State) (o : Row → Bool) (s : ℕ) (x : Contents) → From st o (open_set st s x)
from_open_set st o s x =
    let j = joining st (caller_of x.txn) (place_of st x.space) in
    subst (λ (k : State). From st o (record k { sets = (open_set st s x).sets; next_number = st.next_number + 1 })) (sym j.is) (record { classes = refl; rows = stood st o })

-- a class that was declared before
from_declared : (st : State) (o : Row → Bool) (c : Class) → is_new st.classes c ≡ false → From st o (record st { classes = declared st.classes c })
from_declared st o c e = record { classes = ap (λ (b : Bool). cond b (st.classes ++ c ∷ []) st.classes) e; rows = stood st o }

from_accepted : (st : State) (s id : ℕ) (ns : List ℕ) (a : Ask) → ask_frees_any st a ≡ false → From st (ask_frees a) (accepted st s id ns a)
from_accepted st s id ns (ask.Declare d) e = from_declared st no_row (class_asked d) e
from_accepted st s id ns (ask.Write w) e = from_write st no_row (one_entry w)
from_accepted st s id ns (ask.Read x) e = from_seek st no_row s id (one_row form.Read x) ns
from_accepted st s id ns (ask.ReadIf x) e = from_seek st no_row s id (one_row form.ReadIf x) ns
from_accepted st s id ns (ask.Take x) e = from_seek st no_row s id (one_row form.Take x) ns
from_accepted st s id ns (ask.TakeIf x) e = from_seek st no_row s id (one_row form.TakeIf x) ns
from_accepted st s id ns (ask.Notify x) e = from_register st no_row s x
from_accepted st s id ns (ask.Renew lease ms) e = from_renew st no_row st lease ms (from_none st no_row)
from_accepted st s id ns (ask.Cancel lease) e = from_cancel st lease
from_accepted st s id ns (ask.RenewAll leases) e = fold_keeps (From st no_row) renew_one (λ b l k. choose (From st no_row) (is_some (first_that (renew_tests b l.0 l.1))) b (renew b l.0 l.1) k (from_renew st no_row b l.0 l.1 k)) leases st (from_none st no_row)
from_accepted st s id ns (ask.CancelAll leases) e = from_cancels st leases
from_accepted st s id ns (ask.Txn lease) e = record { classes = refl; rows = stood st no_row }
from_accepted st s id ns (ask.Commit x) e = record { classes = refl; rows = stood st no_row }
from_accepted st s id ns (ask.Abort x) e = from_abort st (named x)
from_accepted st s id ns (ask.State x) e = from_none st no_row
from_accepted st s id ns (ask.Reset space) e = record { classes = refl; rows = each_filter (Comes st no_row) _ st.rows (stood st no_row) }
from_accepted st s id ns ask.Spaces e = from_none st no_row
from_accepted st s id ns ask.Bye e = record { classes = refl; rows = stood st no_row }
from_accepted st s id ns (ask.Hello v) e = record { classes = refl; rows = stood st no_row }
from_accepted st s id ns (ask.WriteAll w) e = from_write st no_row (all_entries w)
from_accepted st s id ns (ask.TakeMany x) e = from_seek st no_row s id (many_rows x) ns
from_accepted st s id ns (ask.Contents x) e = from_open_set st no_row s x
from_accepted st s id ns (ask.Next set most) e = record { classes = refl; rows = stood st no_row }
from_accepted st s id ns (ask.CloseSet set) e = record { classes = refl; rows = stood st no_row }

from_asked : (st : State) (s id : ℕ) (ns : List ℕ) (a : Ask) (o : Option Refusal) → ask_frees_any st a ≡ false → From st (ask_frees a) (after_ask st s id ns a o)
from_asked st s id ns a None e = from_accepted st s id ns a e
from_asked st s id ns a (Some why) e = from_none st (ask_frees a)

-- ---- each step

from_granted : (st : State) (n : ℕ) (ns : List ℕ) (o : Option Blocked) → From st no_row (after_grant st n ns o)
from_granted st n ns None = from_none st no_row
from_granted st n ns (Some b) = let h : From st no_row (give st b ns) = from_give st no_row st b ns (from_none st no_row) in record { classes = h.classes; rows = h.rows }

from_change : (st : State) (act : Step) → frees_any st act ≡ false → From st (frees st act) (change st act)
from_change st (step.Open s) e = record { classes = refl; rows = stood st no_row }
from_change st (step.Shut s) e = record { classes = refl; rows = stood st no_row }
from_change st (step.Clock t) e = record { classes = refl; rows = stood st no_row }
from_change st (step.Ask s a ns) e = from_asked st s a.id ns a.ask (refusal st s a.id a.ask) e
from_change st (step.Fault s id why) e = choose (From st no_row) (is_too_long why) (close st s) st (record { classes = refl; rows = stood st no_row }) (from_none st no_row)
from_change st (step.Grant m ns) e = from_granted st m ns (blocked_of st m)
from_change st (step.Empty m) e = record { classes = refl; rows = stood st no_row }
from_change st (step.Tell m) e = record { classes = refl; rows = stood st no_row }
from_change st (step.Due item) e = from_remove st item.rank item.number
from_change st (step.Vote x space) e = from_vote st x space (joined_at st x space) refl
from_change st (step.Decide x c) e = choose (From st (is_marked x)) c (commit st x) (abort st x) (from_commit st x) (from_abort st x)
from_change st (step.HandOut s m) e = from_none st no_row

pub free_comes : (st : State) (act : Step) (b : Blocked) (row : Row) → frees_any st act ≡ false → Has (next st act).rows row → is_available (next st act) b row ≡ true → (st.next_number ≤ row.number) ⊎ WasThere st act b row
unfolding next
free_comes st act b row e h a =
    let f : From st (frees st act) (change st act) = from_change st act e in
    let free : free_for st.classes b row ≡ true = subst (λ classes. free_for classes b row ≡ true) f.classes a in
    go free (each_has (Comes st (frees st act)) (change st act).rows row f.rows h)
  where
    was : (c : Came st (frees st act) row) → free_for st.classes b row ≡ true → ((frees st act c.was ≡ true) ⊎ ((b : Blocked) → free_for st.classes b row ≡ true → free_for st.classes b c.was ≡ true)) → WasThere st act b row
    was c k (inl m) = record { was = c.was; there = c.there; number = c.number; free = inl m }
    was c k (inr g) = record { was = c.was; there = c.there; number = c.number; free = inr (g b k) }

    go : free_for st.classes b row ≡ true → Comes st (frees st act) row → (st.next_number ≤ row.number) ⊎ WasThere st act b row
    go k (inl l) = inl l
    go k (inr c) = inr (was c k c.free)

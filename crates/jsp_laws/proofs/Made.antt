-- Each legal step is made of changes.
use Rattle.std.proofs.Common.{◌≡◌, refl, sym, ap, ◌∙◌, ◌⊎◌, inl, inr, subst, ℕ, ℤ, ◌+◌, List, [], ◌∷◌, ◌++◌, Bool, true, false, not, cond, ◌&&◌, filter, find, fold, Option, Some, None, is_some, is_none, option_map, ◌==◌, min, max, length, nat_lt, ◌^◌, eqb-true, arith, if◌then◌else◌}
use Rattle.std.specs.List.{list_all}
use Rattle.std.specs.Option.{option_map_or}
use Rattle.std.proofs.lemmas.Bool.{not-false}
use Rattle.jsp_types.specs.Classes.{declared}
use Rattle.jsp_types.specs.Tests.{first_that}
use Rattle.jsp_types.specs.Matching.{template_of}
use Rattle.jsp_wire.specs.declared.ask.Ask.{Ask}
use Rattle.jsp_wire.specs.declared.ask.Ask.TheVariants as ask
use Rattle.jsp_wire.specs.declared.ask.Notify.{Notify}
use Rattle.jsp_wire.specs.declared.ask.Contents.{Contents}
use Rattle.jsp_reply.specs.declared.refusal.Refusal.{Refusal}
use Rattle.jsp_model.specs.declared.state.State.{State}
use Rattle.jsp_model.specs.declared.state.Row.{Row}
use Rattle.jsp_model.specs.declared.state.Registration.{Registration}
use Rattle.jsp_model.specs.declared.state.Blocked.{Blocked}
use Rattle.jsp_model.specs.declared.state.Transaction.{Transaction}
use Rattle.jsp_model.specs.declared.state.Joined.{Joined}
use Rattle.jsp_model.specs.declared.state.MatchSet.{MatchSet}
use Rattle.jsp_model.specs.declared.state.Form.TheVariants as form
use Rattle.jsp_lease.specs.declared.item.Rank.{Rank}
use Rattle.jsp_lease.specs.declared.item.Rank.TheVariants as rank
use Rattle.jsp_model.specs.declared.step.Step.{Step}
use Rattle.jsp_model.specs.declared.step.Step.TheVariants as step
use Rattle.jsp_model.specs.Lookup.{is_open, joined_of, crash_count, update, contains, named, is_caller, is_living, is_voting, joined_at, blocked_of, rank_of}
use Rattle.jsp_model.specs.Sight.{available}
use Rattle.jsp_lease.specs.Granted.{ms_of}
use Rattle.jsp_model.specs.Refusals.{tests, refusal, renew_tests, lease_tests}
use Rattle.jsp_model.specs.Requests.{WriteRequest, RowRequest, one_entry, all_entries, one_row, many_rows, rows_asked, as_blocked, would_block, caller_of, place_of, class_asked}
use Rattle.jsp_model.specs.Changes.{open_session, set_version, newly_joined, join, owe, add_row, new_row, write, give, block, give_or_block, register, open_set, close, unread, forget, abort, committed, published, commit, vote_of, is_not_changed, cast, remove, extend, renew, cancel, renew_one, cancel_one, reset, accepted}
use Rattle.jsp_model.specs.Steps.{is_rising, is_choice, has_its_rows, is_legal, after_ask, is_too_long, after_grant, change, next, after_hand_out}
use Rattle.jsp_model.specs.Outboxes.{post}
use Rattle.jsp_model.specs.Answers.{said}
use Rattle.jsp_model.specs.Due.{due}
use Rattle.jsp_model.specs.Quiet.{are_quiet}
use Rattle.jsp_model.specs.Touches.{touches}
use Rattle.jsp_model.specs.Laws.{next_asked, page_asked}
use Rattle.jsp_laws.specs.Commits.{after_vote}
use Rattle.jsp_laws.proofs.Lists.{Each, Has, each_kept, each_itself, each_found, has_mapped, has_kept, has_last, fold_keeps, fold_keeps_each, contains_dropped, count_dropped, contains_without, contains_other}
use Rattle.jsp_laws.proofs.Living.{lives}
use Rattle.jsp_laws.proofs.Change.{Kind, Lives, SameRow, Reads, joined, voted, extended, other, transact, touch_rows, touch_registrations, touch_sets, turns, keep_rows, keep_registrations, keep_blocked, keep_sets, put, owes, gives, blocks, registers, opens, begins, aborts, commits, asks, Changes, none, then_, one, both}
use Rattle.jsp_laws.proofs.Sound.{IsSound, Grows, grows_reshaped, sound_changes}

-- the transaction that the step commits
abbrev pub committed_by : Step → Option ℕ
committed_by (step.Decide x c) = if c then Some x else None
committed_by _ = None

-- the transaction whose commit is asked
abbrev pub commit_asked : Ask → Option ℕ
commit_asked (ask.Commit x) = Some (named x)
commit_asked _ = None

abbrev pub asked_in : State → Step → Option ℕ
asked_in st (step.Ask s a ns) = if is_none (refusal st s a.id a.ask) then commit_asked a.ask else None
asked_in st _ = None

-- the request may abort transactions
abbrev pub ask_aborts : Ask → Bool
ask_aborts (ask.Abort x) = true
ask_aborts (ask.Cancel lease) = true
ask_aborts (ask.CancelAll leases) = true
ask_aborts _ = false

abbrev pub aborting_in : Step → Bool
aborting_in (step.Ask s a ns) = ask_aborts a.ask
aborting_in (step.Due item) = true
aborting_in (step.Decide x c) = not c
aborting_in _ = false

-- the vote that is cast in the step
abbrev pub vote_in : State → Step → Option (ℕ × ℕ × ℕ)
vote_in st (step.Vote x space) = Some (x, space, crash_count st space)
vote_in st _ = None

-- the joined space as that vote leaves it
abbrev pub recorded_in : State → Step → Option Joined
recorded_in st (step.Vote x space) = option_map (after_vote st x) (joined_at st x space)
recorded_in st _ = None

-- the transaction, if any, whose read marks the vote on this joined space drops there
abbrev pub marks_dropped : State → ℕ → ℕ → Option Joined → Option (ℕ × ℕ)
marks_dropped st x space o = option_map_or (λ j. if is_not_changed (vote_of st x j) then Some (x, space) else None) o None

abbrev pub released_in : State → Step → Option (ℕ × ℕ)
released_in st (step.Vote x space) = marks_dropped st x space (joined_at st x space)
released_in st _ = None

-- the registration that is told
abbrev pub told_in : Step → Option ℕ
told_in (step.Tell n) = Some n
told_in _ = None

-- the request writes
abbrev pub ask_writes : Ask → Bool
ask_writes (ask.Write w) = true
ask_writes (ask.WriteAll w) = true
ask_writes _ = false

abbrev pub owing_in : Step → Bool
owing_in (step.Ask s a ns) = ask_writes a.ask
owing_in (step.Decide x c) = c
owing_in _ = false

-- the request opens a match set
abbrev pub opens_set : Ask → Bool
opens_set (ask.Contents q) = true
opens_set _ = false

abbrev pub opening_in : Step → Bool
opening_in (step.Ask s a ns) = opens_set a.ask
opening_in _ = false

-- the match set whose page is turned
abbrev pub set_turned : Option (ℕ × ℕ) → Option ℕ
set_turned o = option_map (λ p. p.0) o

abbrev pub kind_of : State → Step → Kind
kind_of st act =
    record {
      committed = committed_by act;
      asked = asked_in st act;
      aborting = aborting_in act;
      vote = vote_in st act;
      recorded = recorded_in st act;
      released = released_in st act;
      told = told_in act;
      owing = owing_in act;
      opening = opening_in act;
      turned = set_turned (page_asked (record { state = st; step = act }));
    }

-- what a request does, refused for this or not
abbrev kind_asked : Ask → Option Refusal → Kind
kind_asked a o =
    record {
      committed = None;
      asked = if is_none o then commit_asked a else None;
      aborting = ask_aborts a;
      vote = None;
      recorded = None;
      released = None;
      told = None;
      owing = ask_writes a;
      opening = opens_set a;
      turned = set_turned (if is_none o then next_asked a else None);
    }

pub and_both : (a b : Bool) → (a && b) ≡ true → (a ≡ true) × (b ≡ true)
and_both true b e = (refl, e)
and_both false b e = absurd (cc)

-- ---- ends, leases

close_changes : {c : Kind} (st : State) (s : ℕ) → Changes c st (close st s)
close_changes st s = then_ (keep_blocked _) (then_ (keep_registrations _) (then_ (keep_sets _) (one (other st.classes st.spaces (filter (λ k. not (k.number == s)) st.sessions) st.last_session st.time st.outboxes))))

remove_changes : {c : Kind} (st : State) (r : Rank) (n : ℕ) → c.committed ≡ None → c.aborting ≡ true → Changes c st (remove st r n)
remove_changes st rank.Entry n e k = one (keep_rows _)
remove_changes st rank.Registration n e k = one (keep_registrations _)
remove_changes st rank.Transaction n e k = one (aborts n e k)
remove_changes st rank.Blocked n e k = one (keep_blocked _)
remove_changes st rank.MatchSet n e k = one (keep_sets _)

extend_changes : {c : Kind} (st : State) (end : ℕ) (r : Rank) (n : ℕ) → Changes c st (extend st end r n)
extend_changes st end rank.Entry n = one (touch_rows (λ (r : Row). r.number == n) (λ (r : Row). record r { end = end }) (record { number = λ r. refl; space = λ r. refl; writer = λ r. refl; taker = λ r. refl; readers = λ r k e. e }) (λ r k t e. inl e))
extend_changes st end rank.Registration n = one (touch_registrations (λ (r : Registration). r.number == n) (λ (r : Registration). record r { end = end }) (record { number = λ r. refl; transaction = λ r. refl; owed = λ r k e. e; tally = λ r k. omega arith }) (λ r t. inl refl))
extend_changes st end rank.Transaction n = one (transact (extended end n))
extend_changes st end rank.Blocked n = none
extend_changes st end rank.MatchSet n = one (touch_sets (λ (m : MatchSet). m.number == n) (λ (m : MatchSet). record m { end = end }) (record { number = λ r. refl; transaction = λ r. refl; cursor = λ r. refl }))

maybe : {c : Kind} {A : Type 0} (st : State) (o : Option A) (f : A → State) → ((a : A) → Changes c st (f a)) → Changes c st (option_map_or f o st)
maybe st None f h = none
maybe st (Some a) f h = h a

choice : {c : Kind} {st : State} (b : Bool) (p q : State) → Changes c st p → Changes c st q → Changes c st (cond b p q)
choice true p q h k = h
choice false p q h k = k

renew_changes : {c : Kind} (st : State) (lease ms : ℤ) → Changes c st (renew st lease ms)
renew_changes st lease ms = maybe st (rank_of st (named lease)) _ (λ r. extend_changes st _ r (named lease))

pub cancel_changes : {c : Kind} (st : State) (lease : ℤ) → c.committed ≡ None → c.aborting ≡ true → Changes c st (cancel st lease)
cancel_changes st lease e k = maybe st (rank_of st (named lease)) _ (λ r. remove_changes st r (named lease) e k)

-- ---- joining

pub record Joining (st : State) (after : State) : Type 0 where
  pub ts : List Transaction
  pub is : after ≡ record st { transactions = ts }
  pub grows : Grows st.transactions ts
  pub changes : (c : Kind) → Changes c st (record st { transactions = ts })

stays : (st : State) → Joining st st
stays st = record { ts = st.transactions; is = refl; grows = λ x e. e; changes = λ c. none }

join_new : (st : State) (x space : ℕ) (b : Bool) → is_some (joined_at st x space) ≡ b
    → Joining st (cond b st (record st { transactions = update (λ t. t.number == x) (λ (t : Transaction). record t { joined = t.joined ++ newly_joined st space ∷ [] }) st.transactions }))
join_new st x space true e = stays st
join_new st x space false e = record { ts = _; is = refl; grows = grows_reshaped {c = kind_asked ask.Bye None} {st = st} (joined x space e); changes = λ c. one (transact (joined x space e)) }

pub joining : (st : State) (o : Option ℕ) (space : ℕ) → Joining st (join st o space)
joining st None space = stays st
joining st (Some x) space = join_new st x space (is_some (joined_at st x space)) refl

lives_in : (ts us : List Transaction) (o : Option ℕ) → Grows ts us → Lives ts o → Lives us o
lives_in ts us o g l x e = g x (l x e)

-- ---- tests that passed

-- no test holds
abbrev pub Failed : List (Bool × Refusal) → Type 0
Failed ts = Each (λ (t : Bool × Refusal). t.0 ≡ false) ts

pub all_failed : (ts : List (Bool × Refusal)) → first_that ts ≡ None → Failed ts
all_failed [] e = tt
all_failed (t ∷ ts) e = go t.0 refl e (all_failed ts)
  where
    go : (b : Bool) → t.0 ≡ b → cond b (Some t.1) (first_that ts) ≡ None → (first_that ts ≡ None → Failed ts) → (t.0 ≡ false) × Failed ts
    go true k q ih = absurd (cc)
    go false k q ih = (k, ih q)

pub caller_lives : (ts : List Transaction) (o : Option ℕ) → option_map_or (λ x. not (lives ts x)) o false ≡ false → Lives ts o
caller_lives ts None e x k = absurd (cc)
caller_lives ts (Some y) e x k = let w : y ≡ x = cc in rw w at (not-false (lives ts y) e)

-- ---- requests

write_changes : {c : Kind} (st : State) (w : WriteRequest) → c.opening ≡ false → c.owing ≡ true → Lives st.transactions (caller_of w.txn) → Changes c st (write st w)
write_changes {c = c} st w o p l =
    let j = joining st (caller_of w.txn) (place_of st w.space) in
    subst (λ k. Changes c st (fold (λ st raw. add_row st (new_row st w raw)) k w.entries)) (sym j.is)
    (fold_keeps Good (λ st raw. add_row st (new_row st w raw)) (λ b raw g. (
      both g.0 (then_ (put (new_row b w raw) refl refl refl g.1 o) (one (owes (new_row b w raw) (has_last b.rows (new_row b w raw)) p))),
      g.1,
    ))
    w.entries (record st { transactions = j.ts }) (j.changes c, lives_in st.transactions j.ts (caller_of w.txn) j.grows l)).0
  where
    Good : State → Type 0
    Good b = Changes c st b × Lives b.transactions (caller_of w.txn)

pub second : (a b d : Bool) → (a && b && d) ≡ true → b ≡ true
second true true d e = refl
second true false d e = absurd (cc)
second false b d e = absurd (cc)

pub choice_available : (st : State) (b : Blocked) (ns : List ℕ) → is_choice st b ns ≡ true → list_all (contains (available st b)) ns ≡ true
choice_available st b ns e = second (is_rising ns) (list_all (contains (available st b)) ns) (length ns == min b.most (length (available st b))) e

seek_changes : {c : Kind} (st : State) (s id : ℕ) (q : RowRequest) (ns : List ℕ) → Lives st.transactions (caller_of q.txn) → is_choice st (as_blocked st s id q) ns ≡ true → Changes c st (give_or_block st s id q ns)
seek_changes {c = c} st s id q ns l e =
    let b = as_blocked st s id q in
    let j = joining st (caller_of q.txn) (place_of st q.space) in
    let l' : Lives j.ts (caller_of q.txn) = lives_in st.transactions j.ts (caller_of q.txn) j.grows l in
    subst (λ k. Changes c st (cond (would_block st s id q) (block k b) (give k b ns))) (sym j.is)
    (choice (would_block st s id q) _ _ (both (j.changes c) (one (blocks b refl l'))) (both (j.changes c) (one (gives b ns l' (choice_available st b ns e)))))

register_changes : {c : Kind} (st : State) (s : ℕ) (q : Notify) → Lives st.transactions (caller_of q.txn) → Changes c st (register st s q)
register_changes {c = c} st s q l =
    let j = joining st (caller_of q.txn) (place_of st q.space) in
    let r : Registration = record {
      number = st.next_number;
      space = place_of st q.space;
      template = template_of st.classes q.template;
      transaction = caller_of q.txn;
      session = s;
      handback = q.handback;
      end = st.time + ms_of q.lease;
      sequence = 0;
      owed = [];
    } in
    subst (λ (k : State). Changes c st (record k { registrations = st.registrations ++ r ∷ []; next_number = st.next_number + 1 })) (sym j.is)
    (both (j.changes c) (one (registers r refl refl (lives_in st.transactions j.ts (caller_of q.txn) j.grows l) refl)))

open_set_changes : {c : Kind} (st : State) (s : ℕ) (q : Contents) → c.opening ≡ true → Lives st.transactions (caller_of q.txn) → Changes c st (open_set st s q)
open_set_changes {c = c} st s q o l =
    let j = joining st (caller_of q.txn) (place_of st q.space) in
    let m : MatchSet = record {
      number = st.next_number;
      session = s;
      space = place_of st q.space;
      template = template_of st.classes q.template;
      transaction = caller_of q.txn;
      end = st.time + ms_of q.lease;
      cursor = 0;
    } in
    subst (λ (k : State). Changes c st (record k { sets = st.sets ++ m ∷ []; next_number = st.next_number + 1 })) (sym j.is)
    (both (j.changes c) (one (opens m refl (lives_in st.transactions j.ts (caller_of q.txn) j.grows l) o refl)))

reset_changes : {c : Kind} (st : State) (space : ℕ) → Changes c st (reset st space)
reset_changes st space = then_ (keep_rows _) (then_ (keep_registrations _) (then_ (keep_blocked _) (then_ (keep_sets _) (one (other st.classes (reset st space).spaces st.sessions st.last_session st.time st.outboxes)))))

renew_all : {c : Kind} (st : State) (leases : List (ℤ × ℤ)) → Changes c st (fold renew_one st leases)
renew_all {c = c} st leases = fold_keeps (λ b. Changes c st b) renew_one (λ b l h. both h (choice (is_some (first_that (renew_tests b l.0 l.1))) _ _ none (renew_changes b l.0 l.1))) leases st none

cancel_all : {c : Kind} (st : State) (leases : List ℤ) → c.committed ≡ None → c.aborting ≡ true → Changes c st (fold cancel_one st leases)
cancel_all {c = c} st leases k a = fold_keeps (λ b. Changes c st b) cancel_one (λ b l h. both h (choice (is_some (first_that (lease_tests b l))) _ _ none (cancel_changes b l k a))) leases st none

accepted_changes : (st : State) (s id : ℕ) (ns : List ℕ) (a : Ask) → Failed (tests st s id a) → has_its_rows st s id ns None (rows_asked a) ≡ true → Changes (kind_asked a None) st (accepted st s id ns a)
accepted_changes st s id ns (ask.Declare d) f e = one (other (declared st.classes (class_asked d)) st.spaces st.sessions st.last_session st.time st.outboxes)
accepted_changes st s id ns (ask.Write w) f e = write_changes st (one_entry w) refl refl (caller_lives st.transactions (caller_of w.txn) f.1.1.0)
accepted_changes st s id ns (ask.Read q) f e = seek_changes st s id (one_row form.Read q) ns (caller_lives st.transactions (caller_of q.txn) f.1.1.0) e
accepted_changes st s id ns (ask.ReadIf q) f e = seek_changes st s id (one_row form.ReadIf q) ns (caller_lives st.transactions (caller_of q.txn) f.1.1.0) e
accepted_changes st s id ns (ask.Take q) f e = seek_changes st s id (one_row form.Take q) ns (caller_lives st.transactions (caller_of q.txn) f.1.1.0) e
accepted_changes st s id ns (ask.TakeIf q) f e = seek_changes st s id (one_row form.TakeIf q) ns (caller_lives st.transactions (caller_of q.txn) f.1.1.0) e
accepted_changes st s id ns (ask.Notify q) f e = register_changes st s q (caller_lives st.transactions (caller_of q.txn) f.1.1.0)
accepted_changes st s id ns (ask.Renew lease ms) f e = renew_changes st lease ms
accepted_changes st s id ns (ask.Cancel lease) f e = cancel_changes st lease refl refl
accepted_changes st s id ns (ask.RenewAll leases) f e = renew_all st leases
accepted_changes st s id ns (ask.CancelAll leases) f e = cancel_all st leases refl refl
accepted_changes st s id ns (ask.Txn lease) f e = one (begins _ refl refl)
accepted_changes st s id ns (ask.Commit x) f e = one (asks s id (named x) (not-false (is_living st (named x)) f.1.0) f.1.1.0 refl)
accepted_changes st s id ns (ask.Abort x) f e = one (aborts (named x) refl refl)
accepted_changes st s id ns (ask.State x) f e = none
accepted_changes st s id ns (ask.Reset space) f e = reset_changes st (place_of st space)
accepted_changes st s id ns ask.Spaces f e = none
accepted_changes st s id ns ask.Bye f e = close_changes st s
accepted_changes st s id ns (ask.Hello v) f e = one (other st.classes st.spaces (set_version st s v).sessions st.last_session st.time st.outboxes)
accepted_changes st s id ns (ask.WriteAll w) f e = write_changes st (all_entries w) refl refl (caller_lives st.transactions (caller_of w.txn) f.1.1.0)
accepted_changes st s id ns (ask.TakeMany q) f e = seek_changes st s id (many_rows q) ns (caller_lives st.transactions (caller_of q.txn) f.1.1.0) e
accepted_changes st s id ns (ask.Contents q) f e = open_set_changes st s q refl (caller_lives st.transactions (caller_of q.txn) f.1.1.0)
accepted_changes st s id ns (ask.Next set most) f e = one (turns (named set) most refl refl)
accepted_changes st s id ns (ask.CloseSet set) f e = one (keep_sets _)

-- ---- a commit

abbrev written_by : ℕ → Row → Bool
written_by x row = is_caller row.writer x && not (is_caller row.taker x)

-- the row as it is once x is committed
abbrev freed : ℕ → Row → Row
freed x row = unread x (record row { writer = None })

freed_stands : (x : ℕ) (rows : List Row) (row : Row) → written_by x row ≡ true → Has rows row → Has (committed x rows) (freed x row)
freed_stands x rows row e h =
    let w : (is_caller row.writer x ≡ true) × (not (is_caller row.taker x) ≡ true) = and_both (is_caller row.writer x) (not (is_caller row.taker x)) e in
    let a : Has (filter (λ row. not (is_caller row.taker x)) rows) row = has_kept (λ row. not (is_caller row.taker x)) rows row w.1 h in
    let b : Has (update (λ row. is_caller row.writer x) (λ (row : Row). record row { writer = None }) (filter (λ row. not (is_caller row.taker x)) rows))
    (cond (is_caller row.writer x) (record row { writer = None }) row)
    = has_mapped (λ row. cond (is_caller row.writer x) (record row { writer = None }) row) _ row a in
    let k : cond (is_caller row.writer x) (record row { writer = None }) row ≡ record row { writer = None } = rw w.0 refl in
    let d : Has (update (λ row. is_caller row.writer x) (λ (row : Row). record row { writer = None }) (filter (λ row. not (is_caller row.taker x)) rows)) (record row { writer = None })
    = subst (λ z. Has (update (λ row. is_caller row.writer x) (λ (row : Row). record row { writer = None }) (filter (λ row. not (is_caller row.taker x)) rows)) z) k b in
    has_mapped (unread x) _ (record row { writer = None }) d

-- what a decision does
abbrev kind_decided : ℕ → Bool → Kind
kind_decided x c = record { committed = cond c (Some x) None; asked = None; aborting = not c; vote = None; recorded = None; released = None; told = None; owing = c; opening = false; turned = None }

commit_changes : (st : State) (x : ℕ) → Changes (kind_decided x true) st (commit st x)
commit_changes st x =
    (fold_keeps_each Stands Good (owe None)
    (λ b row h g. (both g.0 (one (owes (freed x row) (subst (λ rows. Has rows (freed x row)) (sym g.1) h) refl)), g.1))
    (published x st.rows)
    (each_kept (Has st.rows) Stands (written_by x) (λ row e h. freed_stands x st.rows row e h) st.rows (each_itself st.rows))
    (record (forget st x) { rows = committed x st.rows })
    (one (commits x refl), refl)).0
  where
    Stands : Row → Type 0
    Stands row = Has (committed x st.rows) (freed x row)

    Good : State → Type 0
    Good b = Changes (kind_decided x true) st b × (b.rows ≡ committed x st.rows)

-- ---- a vote

release_same : (x : ℕ) → SameRow (unread x)
release_same x = record { number = λ r. refl; space = λ r. refl; writer = λ r. refl; taker = λ r. refl; readers = λ r n e. (contains_without x r.readers n e).0 }

abbrev mark_of : ℕ → ℕ → Option (ℕ × ℕ)
mark_of n space = Some (n, space)

-- the reader that leaves is the voter, in the space that votes
released_by : (c : Kind) (st : State) (x space : ℕ) (j : Joined) → j.space ≡ space → c.released ≡ marks_dropped st x space (Some j) → Reads c (λ row. is_not_changed (vote_of st x j) && row.space == j.space) (unread x)
released_by c st x space j here y r n t e = go (n == x) refl
  where
    two : (is_not_changed (vote_of st x j) ≡ true) × ((r.space == j.space) ≡ true)
    two = and_both (is_not_changed (vote_of st x j)) (r.space == j.space) t

    go : (b : Bool) → (n == x) ≡ b → (contains (unread x r).readers n ≡ true) ⊎ (c.released ≡ Some (n, r.space))
    go true d =
        let a : x ≡ n = sym (eqb-true n x d) in
        let b : space ≡ r.space = sym (eqb-true r.space j.space two.1 ∙ here) in
        let dropped : marks_dropped st x space (Some j) ≡ mark_of x space = rw two.0 refl in
        inr (y ∙ dropped ∙ ap (λ q. mark_of q space) a ∙ ap (λ p. mark_of n p) b)
    go false d = inl (contains_other x r.readers n d e)

pub is_none_none : {A : Type 0} (o : Option A) → is_none o ≡ true → o ≡ None
is_none_none None e = refl
is_none_none (Some a) e = absurd (cc)

-- the joined space that is found is of that space
pub each_true : {A : Type 0} (xs : List A) → Each (λ x. Unit {0}) xs
each_true [] = tt
each_true (x ∷ xs) = (tt, each_true xs)

pub found_passes : {A : Type 0} (t : A → Bool) (xs : List A) (y : A) → find t xs ≡ Some y → t y ≡ true
found_passes {A = A} t xs y e = (each_found (λ (x : A). Unit {0}) t xs y (each_true xs) e).1

vote_changes : {c : Kind} (st : State) (x space : ℕ) (o : Option Joined) → c.vote ≡ Some (x, space, crash_count st space) → c.recorded ≡ option_map (after_vote st x) o → c.released ≡ marks_dropped st x space o → joined_at st x space ≡ o → option_map_or (λ j. is_none j.vote) o false ≡ true → Changes c st (option_map_or (cast st x) o st)
vote_changes st x space None w z y k e = none
vote_changes {c = c} st x space (Some j) w z y k e =
    let here : j.space ≡ space = eqb-true j.space space (found_passes (λ i. i.space == space) (joined_of st x) j k) in
    let at : joined_at st x j.space ≡ Some j = subst (λ z. joined_at st x z ≡ Some j) (sym here) k in
    then_ (transact (voted x j at (is_none_none j.vote e) (subst (λ z. c.vote ≡ Some (x, z, crash_count st z)) (sym here) w) z))
    (one (touch_rows (λ row. is_not_changed (vote_of st x j) && row.space == j.space) (unread x) (release_same x) (released_by c st x space j here y)))

-- ---- each step

grant_changes : {c : Kind} (st : State) (n : ℕ) (ns : List ℕ) (o : Option Blocked) → IsSound st → blocked_of st n ≡ o
    → option_map_or (λ b. nat_lt 0 (length ns) && is_choice st b ns) o false ≡ true → Changes c st (after_grant st n ns o)
grant_changes st n ns None s k e = none
grant_changes st n ns (Some b) s k e =
    let l : Lives st.transactions b.transaction = (each_found (λ (b : Blocked). Lives st.transactions b.transaction) (λ b. b.number == n) st.blocked b s.blocked_live k).0 in
    let a : is_choice st b ns ≡ true = (and_both (nat_lt 0 (length ns)) (is_choice st b ns) e).1 in
    then_ (gives b ns l (choice_available st b ns a)) (one (keep_blocked _))

ask_changes : (st : State) (s id : ℕ) (ns : List ℕ) (a : Ask) (o : Option Refusal) → refusal st s id a ≡ o → has_its_rows st s id ns o (rows_asked a) ≡ true → Changes (kind_asked a o) st (after_ask st s id ns a o)
unfolding refusal
ask_changes st s id ns a None k e = accepted_changes st s id ns a (all_failed (tests st s id a) k) e
ask_changes st s id ns a (Some r) k e = none

pub fourth : (a b d e : Bool) → (a && b && d && e) ≡ true → e ≡ true
fourth true true true e k = k
fourth true true false e k = absurd (cc)
fourth true false d e k = absurd (cc)
fourth false b d e k = absurd (cc)

decide_changes : (st : State) (x : ℕ) (c : Bool) → Changes (kind_decided x c) st (cond c (commit st x) (abort st x))
decide_changes st x true = commit_changes st x
decide_changes st x false = one (aborts x refl refl)

change_changes : (st : State) (act : Step) → is_legal st act ≡ true → IsSound st → Changes (kind_of st act) st (change st act)
unfolding is_legal
change_changes st (step.Open s) e k = one (other st.classes st.spaces (open_session st s).sessions s st.time st.outboxes)
change_changes st (step.Shut s) e k = close_changes st s
change_changes st (step.Clock t) e k = one (other st.classes st.spaces st.sessions st.last_session (max st.time (min t (2 ^ 62))) st.outboxes)
change_changes st (step.Ask s a ns) e k = ask_changes st s a.id ns a.ask (refusal st s a.id a.ask) refl (fourth (is_open st s) (is_none (due st)) (are_quiet st (touches st (step.Ask s a ns))) (has_its_rows st s a.id ns (refusal st s a.id a.ask) (rows_asked a.ask)) e)
change_changes st (step.Fault s id r) e k = choice (is_too_long r) _ _ (close_changes st s) none
change_changes st (step.Grant n ns) e k = grant_changes st n ns (blocked_of st n) k refl e
change_changes st (step.Empty n) e k = one (keep_blocked _)
change_changes st (step.Tell n) e k = one (touch_registrations _ _ (record { number = λ r. refl; transaction = λ r. refl; owed = λ r m q. contains_dropped r.owed m q; tally = λ r m. count_dropped r.owed m }) (λ r q. inr (ap Some (sym (eqb-true r.number n q)))))
change_changes st (step.Due item) e k = remove_changes st item.rank item.number refl refl
change_changes st (step.Vote x space) e k = vote_changes st x space (joined_at st x space) refl refl refl refl (second (is_voting st x) (option_map_or (λ j. is_none j.vote) (joined_at st x space) false) (are_quiet st (touches st (step.Vote x space))) e)
change_changes st (step.Decide x c) e k = decide_changes st x c
change_changes st (step.HandOut s n) e k = none

pub step_changes : (st : State) (act : Step) → is_legal st act ≡ true → IsSound st → Changes (kind_of st act) st (next st act)
unfolding next
step_changes st act e k =
    let after = change st act in
    both (change_changes st act e k) (one (other after.classes after.spaces after.sessions after.last_session after.time (after_hand_out act (fold post st.outboxes (said st act)))))

pub sound_step : (st : State) (act : Step) → is_legal st act ≡ true → IsSound st → IsSound (next st act)
sound_step st act e k = sound_changes (step_changes st act e k) k

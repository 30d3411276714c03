-- Changes of things that are there, and things that go, keep the limits.
use Rattle.std.proofs.Common.{◌≡◌, ℕ, ℤ, pos, negsuc, zero, suc, ◌+◌, ◌≤◌, ◌^◌, Bool, true, false, not, cond, nat_lt, nat_le, List, [], ◌∷◌, ◌++◌, map, drop, length, Option, Some, None, is_some, refl, ap, ◌∙◌, subst, arith, length-drop}
use Rattle.std.specs.Prelude.{filter, flat_map, ◌&&◌, ◌==◌, fold, unwrap_or}
use Rattle.std.specs.List.{list_all, last_or}
use Rattle.std.specs.Option.{option_map_or}
use Rattle.std.proofs.lemmas.Bool.{and_parts, and_from, ltb-true, le-leb}
use Rattle.jsp_types.specs.Tests.{first_that}
use Rattle.jsp_types.specs.Matching.{is_small, is_small_template}
use Rattle.jsp_wire.specs.declared.ask.Version.{Version}
use Rattle.jsp_model.specs.declared.state.State.{State}
use Rattle.jsp_model.specs.declared.state.Session.{Session}
use Rattle.jsp_model.specs.declared.state.Row.{Row}
use Rattle.jsp_model.specs.declared.state.Registration.{Registration}
use Rattle.jsp_model.specs.declared.state.Blocked.{Blocked}
use Rattle.jsp_model.specs.declared.state.Transaction.{Transaction}
use Rattle.jsp_model.specs.declared.state.Joined.{Joined}
use Rattle.jsp_model.specs.declared.state.Commit.{Commit}
use Rattle.jsp_model.specs.declared.state.MatchSet.{MatchSet}
use Rattle.jsp_model.specs.declared.state.Vote.{Vote}
use Rattle.jsp_lease.specs.declared.item.Rank.{Rank}
use Rattle.jsp_lease.specs.declared.item.Rank.TheVariants as rank
use Rattle.jsp_lease.specs.Granted.{ms_of}
use Rattle.jsp_model.specs.Lookup.{update, contains, named, is_caller, rank_of, registration_of, joined_at}
use Rattle.jsp_model.specs.Sight.{is_take}
use Rattle.jsp_model.specs.Refusals.{renew_tests, lease_tests}
use Rattle.jsp_model.specs.Changes.{close, set_version, read_by, taken_by, give, tell, page_of, turn_page, unread, leave_active, forget, aborted, abort, is_not_changed, vote_of, release, cast, cast_vote, remove, extend, renew, cancel, renew_one, cancel_one}
use Rattle.jsp_model.specs.Limits.{is_end, is_joined, are_apart, IsWithinLimits}
use Rattle.jsp_limits.proofs.Lists.{Fewer, done, dropped, kept, fewer_filter, fewer_map, fewer_update, fewer_then, fewer_at}
use Rattle.jsp_limits.proofs.Kept.{sessions_stay, rows_stay, registrations_stay, blocked_stay, transactions_stay, commits_stay, sets_stay, SessionAfter, RowAfter, RegistrationAfter, BlockedAfter, TransactionAfter, SetAfter, session_same, row_same, registration_same, blocked_same, transaction_same, commit_same, set_same, after_change}

-- ---- one list changes

pub after_sessions : (st : State) (sessions : List Session) → Fewer SessionAfter st.sessions sessions → IsWithinLimits st → IsWithinLimits (record st { sessions = sessions })
after_sessions st sessions f h =
    after_change st sessions st.rows st.registrations st.blocked st.transactions st.commits st.sets
    (record { of_sessions = f; of_rows = rows_stay st; of_registrations = registrations_stay st; of_blocked = blocked_stay st; of_transactions = transactions_stay st; of_commits = commits_stay st; of_sets = sets_stay st }) h

pub after_rows : (st : State) (rows : List Row) → Fewer (RowAfter (length st.spaces)) st.rows rows → IsWithinLimits st → IsWithinLimits (record st { rows = rows })
after_rows st rows f h =
    after_change st st.sessions rows st.registrations st.blocked st.transactions st.commits st.sets
    (record { of_sessions = sessions_stay st; of_rows = f; of_registrations = registrations_stay st; of_blocked = blocked_stay st; of_transactions = transactions_stay st; of_commits = commits_stay st; of_sets = sets_stay st }) h

pub after_registrations : (st : State) (registrations : List Registration) → Fewer (RegistrationAfter (length st.spaces) 0) st.registrations registrations → IsWithinLimits st → IsWithinLimits (record st { registrations = registrations })
after_registrations st registrations f h =
    after_change st st.sessions st.rows registrations st.blocked st.transactions st.commits st.sets
    (record { of_sessions = sessions_stay st; of_rows = rows_stay st; of_registrations = f; of_blocked = blocked_stay st; of_transactions = transactions_stay st; of_commits = commits_stay st; of_sets = sets_stay st }) h

pub after_blocked : (st : State) (blocked : List Blocked) → Fewer BlockedAfter st.blocked blocked → IsWithinLimits st → IsWithinLimits (record st { blocked = blocked })
after_blocked st blocked f h =
    after_change st st.sessions st.rows st.registrations blocked st.transactions st.commits st.sets
    (record { of_sessions = sessions_stay st; of_rows = rows_stay st; of_registrations = registrations_stay st; of_blocked = f; of_transactions = transactions_stay st; of_commits = commits_stay st; of_sets = sets_stay st }) h

pub after_transactions : (st : State) (transactions : List Transaction) → Fewer (TransactionAfter (length st.spaces)) st.transactions transactions → IsWithinLimits st → IsWithinLimits (record st { transactions = transactions })
after_transactions st transactions f h =
    after_change st st.sessions st.rows st.registrations st.blocked transactions st.commits st.sets
    (record { of_sessions = sessions_stay st; of_rows = rows_stay st; of_registrations = registrations_stay st; of_blocked = blocked_stay st; of_transactions = f; of_commits = commits_stay st; of_sets = sets_stay st }) h

pub after_sets : (st : State) (sets : List MatchSet) → Fewer (SetAfter (length st.spaces)) st.sets sets → IsWithinLimits st → IsWithinLimits (record st { sets = sets })
after_sets st sets f h =
    after_change st st.sessions st.rows st.registrations st.blocked st.transactions st.commits sets
    (record { of_sessions = sessions_stay st; of_rows = rows_stay st; of_registrations = registrations_stay st; of_blocked = blocked_stay st; of_transactions = transactions_stay st; of_commits = commits_stay st; of_sets = f }) h

-- ---- some go

pub limits_keep_rows : (st : State) (t : Row → Bool) → IsWithinLimits st → IsWithinLimits (record st { rows = filter t st.rows })
limits_keep_rows st t h = after_rows st (filter t st.rows) (fewer_filter (row_same (length st.spaces)) t st.rows) h

pub limits_keep_registrations : (st : State) (t : Registration → Bool) → IsWithinLimits st → IsWithinLimits (record st { registrations = filter t st.registrations })
limits_keep_registrations st t h = after_registrations st (filter t st.registrations) (fewer_filter (registration_same (length st.spaces)) t st.registrations) h

pub limits_keep_blocked : (st : State) (t : Blocked → Bool) → IsWithinLimits st → IsWithinLimits (record st { blocked = filter t st.blocked })
limits_keep_blocked st t h = after_blocked st (filter t st.blocked) (fewer_filter blocked_same t st.blocked) h

pub limits_keep_sets : (st : State) (t : MatchSet → Bool) → IsWithinLimits st → IsWithinLimits (record st { sets = filter t st.sets })
limits_keep_sets st t h = after_sets st (filter t st.sets) (fewer_filter (set_same (length st.spaces)) t st.sets) h

-- ---- sessions

pub limits_close : (st : State) (s : ℕ) → IsWithinLimits st → IsWithinLimits (close st s)
limits_close st s h =
    let n = length st.spaces in
    after_change st (filter (λ (k : Session). not (k.number == s)) st.sessions) st.rows (filter (λ (r : Registration). not (r.session == s)) st.registrations) (filter (λ (b : Blocked). not (b.session == s)) st.blocked) st.transactions st.commits (filter (λ (m : MatchSet). not (m.session == s)) st.sets)
    (record {
      of_sessions = fewer_filter session_same (λ k. not (k.number == s)) st.sessions;
      of_rows = rows_stay st;
      of_registrations = fewer_filter (registration_same n) (λ r. not (r.session == s)) st.registrations;
      of_blocked = fewer_filter blocked_same (λ b. not (b.session == s)) st.blocked;
      of_transactions = transactions_stay st;
      of_commits = commits_stay st;
      of_sets = fewer_filter (set_same n) (λ m. not (m.session == s)) st.sets;
    }) h

pub limits_version : (st : State) (s : ℕ) (v : Version) → IsWithinLimits st → IsWithinLimits (set_version st s v)
limits_version st s v h =
    after_sessions st (update (λ (k : Session). k.number == s) (λ (k : Session). record k { version = v }) st.sessions)
    (fewer_update session_same (λ (k : Session). k.number == s) (λ (k : Session). record k { version = v }) (λ k. record { number = refl }) st.sessions) h

-- ---- rows are given

row_taken : (spaces x : ℕ) (r : Row) → RowAfter spaces r (record r { taker = Some x })
row_taken spaces x r = record { number = refl; space = refl; fits = λ e. e; hidden = λ caller e. e }

row_read : (spaces : ℕ) (readers : List ℕ) (r : Row) → RowAfter spaces r (record r { readers = readers })
row_read spaces readers r = record { number = refl; space = refl; fits = λ e. e; hidden = λ caller e. e }

abbrev given : Bool → Bool → Option ℕ → Row → List Row
given is_given takes x row = cond is_given (cond takes (taken_by x row) (read_by x row)) (row ∷ [])

one_given : (spaces : ℕ) (is_given takes : Bool) (x : Option ℕ) (r : Row) (rest rows : List Row) → Fewer (RowAfter spaces) rows rest → Fewer (RowAfter spaces) (r ∷ rows) (given is_given takes x r ++ rest)
one_given spaces true true None r rest rows f = dropped r f
one_given spaces true true (Some x) r rest rows f = kept r (record r { taker = Some x }) (row_taken spaces x r) f
one_given spaces true false None r rest rows f = kept r r (row_same spaces r) f
one_given spaces true false (Some x) r rest rows f = kept r (record r { readers = cond (contains r.readers x) r.readers (r.readers ++ x ∷ []) }) (row_read spaces (cond (contains r.readers x) r.readers (r.readers ++ x ∷ [])) r) f
one_given spaces false takes x r rest rows f = kept r r (row_same spaces r) f

all_given : (spaces : ℕ) (t : Row → Bool) (takes : Bool) (x : Option ℕ) (rows : List Row) → Fewer (RowAfter spaces) rows (flat_map (λ r. given (t r) takes x r) rows)
all_given spaces t takes x [] = done
all_given spaces t takes x (r ∷ rows) = one_given spaces (t r) takes x r (flat_map (λ r. given (t r) takes x r) rows) rows (all_given spaces t takes x rows)

pub limits_give : (st : State) (b : Blocked) (ns : List ℕ) → IsWithinLimits st → IsWithinLimits (give st b ns)
limits_give st b ns h =
    after_rows st (flat_map (λ (r : Row). given (contains ns r.number) (is_take b.form) b.transaction r) st.rows)
    (all_given (length st.spaces) (λ (r : Row). contains ns r.number) (is_take b.form) b.transaction st.rows) h

-- ---- an event is told

one_told : (spaces : ℕ) (r : Registration) → nat_lt 0 (length r.owed) ≡ true → RegistrationAfter spaces 0 r (record r { owed = drop 1 r.owed; sequence = r.sequence + 1 })
one_told spaces r some =
    let more = ltb-true 0 (length r.owed) some in
    record { number = refl; transaction = refl; fits = λ e. e; told = omega (arith, more, length-drop 1 r.owed) }

told_found : (st : State) (n : ℕ) (o : Option Registration) → registration_of st n ≡ o → option_map_or (λ r. nat_lt 0 (length r.owed)) o false ≡ true → (r : Registration) → o ≡ Some r → nat_lt 0 (length r.owed) ≡ true
told_found st n None e l r is = absurd (cc)
told_found st n (Some q) e l r is = let same : q ≡ r = cc in subst (λ (r : Registration). nat_lt 0 (length r.owed) ≡ true) same l

pub limits_tell : (st : State) (n : ℕ) → IsWithinLimits st → option_map_or (λ r. nat_lt 0 (length r.owed)) (registration_of st n) false ≡ true → IsWithinLimits (tell st n)
limits_tell st n h legal =
    after_registrations st (update (λ (r : Registration). r.number == n) (λ (r : Registration). record r { owed = drop 1 r.owed; sequence = r.sequence + 1 }) st.registrations)
    (fewer_at (registration_same (length st.spaces)) (λ (r : Registration). r.number) (λ (r : Registration). record r { owed = drop 1 r.owed; sequence = r.sequence + 1 }) n 0 st.next_number st.registrations h.registrations.rising
    (λ r e. one_told (length st.spaces) r (told_found st n (registration_of st n) refl legal r e))) h

-- ---- match sets

pub limits_turn : (st : State) (n most : ℕ) → IsWithinLimits st → IsWithinLimits (turn_page st n most)
limits_turn st n most h =
    let last = last_or None (map (λ (row : Row). row.number) (page_of st n most)) in
    after_sets st (update (λ (m : MatchSet). m.number == n) (λ (m : MatchSet). record m { cursor = unwrap_or last m.cursor }) st.sets)
    (fewer_update (set_same (length st.spaces)) (λ (m : MatchSet). m.number == n) (λ (m : MatchSet). record m { cursor = unwrap_or last m.cursor }) (λ m. record { number = refl; fits = λ e. e }) st.sets) h

-- ---- a transaction ends, or leaves the active state

pub limits_leave : (st : State) (x : ℕ) → IsWithinLimits st → IsWithinLimits (leave_active st x)
limits_leave st x h =
    let n = length st.spaces in
    after_change st st.sessions st.rows st.registrations (filter (λ (b : Blocked). not (is_caller b.transaction x)) st.blocked) st.transactions st.commits (filter (λ (m : MatchSet). not (is_caller m.transaction x)) st.sets)
    (record {
      of_sessions = sessions_stay st;
      of_rows = rows_stay st;
      of_registrations = registrations_stay st;
      of_blocked = fewer_filter blocked_same (λ b. not (is_caller b.transaction x)) st.blocked;
      of_transactions = transactions_stay st;
      of_commits = commits_stay st;
      of_sets = fewer_filter (set_same n) (λ m. not (is_caller m.transaction x)) st.sets;
    }) h

-- it is forgotten, and the rows lose its marks
pub limits_forget : (st : State) (x : ℕ) (rows : List Row) → Fewer (RowAfter (length st.spaces)) st.rows rows → IsWithinLimits st → IsWithinLimits (record (forget st x) { rows = rows })
limits_forget st x rows f h =
    let n = length st.spaces in
    after_change st st.sessions rows (filter (λ (r : Registration). not (is_caller r.transaction x)) st.registrations) (filter (λ (b : Blocked). not (is_caller b.transaction x)) st.blocked) (filter (λ (t : Transaction). not (t.number == x)) st.transactions) (filter (λ (c : Commit). not (c.transaction == x)) st.commits) (filter (λ (m : MatchSet). not (is_caller m.transaction x)) st.sets)
    (record {
      of_sessions = sessions_stay st;
      of_rows = f;
      of_registrations = fewer_filter (registration_same n) (λ r. not (is_caller r.transaction x)) st.registrations;
      of_blocked = fewer_filter blocked_same (λ b. not (is_caller b.transaction x)) st.blocked;
      of_transactions = fewer_filter (transaction_same n) (λ t. not (t.number == x)) st.transactions;
      of_commits = fewer_filter commit_same (λ c. not (c.transaction == x)) st.commits;
      of_sets = fewer_filter (set_same n) (λ m. not (is_caller m.transaction x)) st.sets;
    }) h

pub row_then : (spaces : ℕ) (a b c : Row) → RowAfter spaces a b → RowAfter spaces b c → RowAfter spaces a c
row_then spaces a b c f g = record { number = g.number ∙ f.number; space = g.space ∙ f.space; fits = λ e. g.fits (f.fits e); hidden = λ caller e. f.hidden caller (g.hidden caller e) }

pub row_unread : (spaces x : ℕ) (r : Row) → RowAfter spaces r (unread x r)
row_unread spaces x r = row_read spaces (filter (λ y. not (y == x)) r.readers) r

pub limits_abort : (st : State) (x : ℕ) → IsWithinLimits st → IsWithinLimits (abort st x)
limits_abort st x h =
    let n = length st.spaces in
    let left : List Row = filter (λ (r : Row). not (is_caller r.writer x)) st.rows in
    let back : List Row = update (λ (r : Row). is_caller r.taker x) (λ (r : Row). record r { taker = None }) left in
    let f : Fewer (RowAfter n) st.rows left = fewer_filter (row_same n) (λ r. not (is_caller r.writer x)) st.rows in
    let g : Fewer (RowAfter n) left back = fewer_update (row_same n) (λ (r : Row). is_caller r.taker x) (λ (r : Row). record r { taker = None }) (λ r. record { number = refl; space = refl; fits = λ e. e; hidden = λ caller e. e }) left in
    let k : Fewer (RowAfter n) back (map (unread x) back) = fewer_map (unread x) (row_unread n x) back in
    limits_forget st x (aborted x st.rows) (fewer_then (row_then n) f (fewer_then (row_then n) g k)) h

-- ---- a vote

spaces_kept : (f : Joined → Joined) → ((j : Joined) → (f j).space ≡ j.space) → (js : List Joined) → map (λ (j : Joined). j.space) (map f js) ≡ map (λ (j : Joined). j.space) js
spaces_kept f e [] = refl
spaces_kept f e (j ∷ js) = rw (e j, spaces_kept f e js) refl

joined_kept : (spaces : ℕ) (f : Joined → Joined) → ((j : Joined) → is_joined spaces (f j) ≡ is_joined spaces j) → (js : List Joined) → list_all (is_joined spaces) (map f js) ≡ list_all (is_joined spaces) js
joined_kept spaces f e [] = refl
joined_kept spaces f e (j ∷ js) = rw (e j, joined_kept spaces f e js) refl

abbrev votes_as : ℕ → Vote → Joined → Joined
votes_as space v j = cond (j.space == space) (record j { vote = Some v }) j

votes_there : (space : ℕ) (v : Vote) (j : Joined) → (votes_as space v j).space ≡ j.space
votes_there space v j = elim (j.space == space) as (λ b. (cond b (record j { vote = Some v }) j).space ≡ j.space) [ true ↦ refl | false ↦ refl ]

votes_fit : (spaces space : ℕ) (v : Vote) (j : Joined) → is_joined spaces (votes_as space v j) ≡ is_joined spaces j
votes_fit spaces space v j = elim (j.space == space) as (λ b. is_joined spaces (cond b (record j { vote = Some v }) j) ≡ is_joined spaces j) [ true ↦ refl | false ↦ refl ]

one_voted : (spaces space : ℕ) (v : Vote) (t : Transaction) → TransactionAfter spaces t (record t { joined = update (λ (k : Joined). k.space == space) (λ (k : Joined). record k { vote = Some v }) t.joined })
one_voted spaces space v t = record {
  number = refl;
  fits = λ e. (
      let outer = and_parts (is_end t.end && list_all (is_joined spaces) t.joined) (are_apart (map (λ (j : Joined). j.space) t.joined)) e in
      let inner = and_parts (is_end t.end) (list_all (is_joined spaces) t.joined) outer.0 in
      let js : List Joined = map (votes_as space v) t.joined in
      and_from (is_end t.end && list_all (is_joined spaces) js) (are_apart (map (λ (j : Joined). j.space) js))
      (and_from (is_end t.end) (list_all (is_joined spaces) js) inner.0 (joined_kept spaces (votes_as space v) (votes_fit spaces space v) t.joined ∙ inner.1))
      (ap are_apart (spaces_kept (votes_as space v) (votes_there space v) t.joined) ∙ outer.1));
}

limits_cast : (st : State) (x : ℕ) (j : Joined) → IsWithinLimits st → IsWithinLimits (cast st x j)
limits_cast st x j h =
    let n = length st.spaces in
    let v = vote_of st x j in
    let rows : List Row = release v x j.space st.rows in
    let f : Fewer (RowAfter n) st.rows rows = fewer_update (row_same n) (λ (row : Row). is_not_changed v && row.space == j.space) (unread x) (row_unread n x) st.rows in
    after_transactions (record st { rows = rows }) (update (λ (t : Transaction). t.number == x) (λ (t : Transaction). record t { joined = update (λ (k : Joined). k.space == j.space) (λ (k : Joined). record k { vote = Some v }) t.joined }) st.transactions)
    (fewer_update (transaction_same n) (λ (t : Transaction). t.number == x) (λ (t : Transaction). record t { joined = update (λ (k : Joined). k.space == j.space) (λ (k : Joined). record k { vote = Some v }) t.joined }) (one_voted n j.space v) st.transactions)
    (after_rows st rows f h)

limits_maybe : {A : Type 0} (st : State) (o : Option A) (f : A → State) → ((a : A) → IsWithinLimits (f a)) → IsWithinLimits st → IsWithinLimits (option_map_or f o st)
limits_maybe st None f k h = h
limits_maybe st (Some a) f k h = k a

pub limits_vote : (st : State) (x space : ℕ) → IsWithinLimits st → IsWithinLimits (cast_vote st x space)
limits_vote st x space h = limits_maybe st (joined_at st x space) (cast st x) (λ j. limits_cast st x j h) h

-- ---- leases

pub limits_remove : (st : State) (r : Rank) (n : ℕ) → IsWithinLimits st → IsWithinLimits (remove st r n)
limits_remove st rank.Entry n h = limits_keep_rows st (λ r. not (r.number == n)) h
limits_remove st rank.Registration n h = limits_keep_registrations st (λ r. not (r.number == n)) h
limits_remove st rank.Transaction n h = limits_abort st n h
limits_remove st rank.Blocked n h = limits_keep_blocked st (λ b. not (b.number == n)) h
limits_remove st rank.MatchSet n h = limits_keep_sets st (λ m. not (m.number == n)) h

row_extended : (spaces end : ℕ) → is_end end ≡ true → (r : Row) → RowAfter spaces r (record r { end = end })
row_extended spaces end is r = record {
  number = refl;
  space = refl;
  fits = λ e. (
      let outer = and_parts (nat_lt r.space spaces && is_end r.end) (is_small r.entry) e in
      let inner = and_parts (nat_lt r.space spaces) (is_end r.end) outer.0 in
      and_from (nat_lt r.space spaces && is_end end) (is_small r.entry) (and_from (nat_lt r.space spaces) (is_end end) inner.0 is) outer.1);
  hidden = λ caller e. e;
}

registration_extended : (spaces end : ℕ) → is_end end ≡ true → (r : Registration) → RegistrationAfter spaces 0 r (record r { end = end })
registration_extended spaces end is r = record {
  number = refl;
  transaction = refl;
  fits = λ e. (
      let outer = and_parts (nat_lt r.space spaces && is_end r.end && is_small_template r.template) (nat_le (length r.handback) 256) e in
      let middle = and_parts (nat_lt r.space spaces && is_end r.end) (is_small_template r.template) outer.0 in
      let inner = and_parts (nat_lt r.space spaces) (is_end r.end) middle.0 in
      and_from (nat_lt r.space spaces && is_end end && is_small_template r.template) (nat_le (length r.handback) 256)
      (and_from (nat_lt r.space spaces && is_end end) (is_small_template r.template) (and_from (nat_lt r.space spaces) (is_end end) inner.0 is) middle.1) outer.1);
  told = omega arith;
}

transaction_extended : (spaces end : ℕ) → is_end end ≡ true → (t : Transaction) → TransactionAfter spaces t (record t { end = end })
transaction_extended spaces end is t = record {
  number = refl;
  fits = λ e. (
      let outer = and_parts (is_end t.end && list_all (is_joined spaces) t.joined) (are_apart (map (λ (j : Joined). j.space) t.joined)) e in
      let inner = and_parts (is_end t.end) (list_all (is_joined spaces) t.joined) outer.0 in
      and_from (is_end end && list_all (is_joined spaces) t.joined) (are_apart (map (λ (j : Joined). j.space) t.joined)) (and_from (is_end end) (list_all (is_joined spaces) t.joined) is inner.1) outer.1);
}

set_extended : (spaces end : ℕ) → is_end end ≡ true → (m : MatchSet) → SetAfter spaces m (record m { end = end })
set_extended spaces end is m = record {
  number = refl;
  fits = λ e. (
      let outer = and_parts (nat_lt m.space spaces && is_end m.end) (is_small_template m.template) e in
      let inner = and_parts (nat_lt m.space spaces) (is_end m.end) outer.0 in
      and_from (nat_lt m.space spaces && is_end end) (is_small_template m.template) (and_from (nat_lt m.space spaces) (is_end end) inner.0 is) outer.1);
}

pub limits_extend : (st : State) (end : ℕ) (r : Rank) (n : ℕ) → is_end end ≡ true → IsWithinLimits st → IsWithinLimits (extend st end r n)
limits_extend st end rank.Entry n is h =
    after_rows st (update (λ (r : Row). r.number == n) (λ (r : Row). record r { end = end }) st.rows)
    (fewer_update (row_same (length st.spaces)) (λ (r : Row). r.number == n) (λ (r : Row). record r { end = end }) (row_extended (length st.spaces) end is) st.rows) h
limits_extend st end rank.Registration n is h =
    after_registrations st (update (λ (r : Registration). r.number == n) (λ (r : Registration). record r { end = end }) st.registrations)
    (fewer_update (registration_same (length st.spaces)) (λ (r : Registration). r.number == n) (λ (r : Registration). record r { end = end }) (registration_extended (length st.spaces) end is) st.registrations) h
limits_extend st end rank.Transaction n is h =
    after_transactions st (update (λ (t : Transaction). t.number == n) (λ (t : Transaction). record t { end = end }) st.transactions)
    (fewer_update (transaction_same (length st.spaces)) (λ (t : Transaction). t.number == n) (λ (t : Transaction). record t { end = end }) (transaction_extended (length st.spaces) end is) st.transactions) h
limits_extend st end rank.Blocked n is h = h
limits_extend st end rank.MatchSet n is h =
    after_sets st (update (λ (m : MatchSet). m.number == n) (λ (m : MatchSet). record m { end = end }) st.sets)
    (fewer_update (set_same (length st.spaces)) (λ (m : MatchSet). m.number == n) (λ (m : MatchSet). record m { end = end }) (set_extended (length st.spaces) end is) st.sets) h

-- at most an hour is granted
pub granted_most : (lease : ℤ) → ms_of lease ≤ 3600000
granted_most (pos n) = omega arith
granted_most (negsuc zero) = omega arith
granted_most (negsuc (suc n)) = omega arith

pub lease_end : (time : ℕ) (lease : ℤ) → time ≤ 2 ^ 62 → is_end (time + ms_of lease) ≡ true
lease_end time lease le = le-leb (time + ms_of lease) (2 ^ 62 + 3600000) (omega (arith, granted_most lease))

pub limits_renew : (st : State) (lease ms : ℤ) → IsWithinLimits st → IsWithinLimits (renew st lease ms)
limits_renew st lease ms h =
    limits_maybe st (rank_of st (named lease)) (λ r. extend st (st.time + ms_of ms) r (named lease)) (λ r. limits_extend st (st.time + ms_of ms) r (named lease) (lease_end st.time ms h.time) h) h

pub limits_cancel : (st : State) (lease : ℤ) → IsWithinLimits st → IsWithinLimits (cancel st lease)
limits_cancel st lease h = limits_maybe st (rank_of st (named lease)) (λ r. remove st r (named lease)) (λ r. limits_remove st r (named lease) h) h

pub limits_choice : (b : Bool) (p q : State) → IsWithinLimits p → IsWithinLimits q → IsWithinLimits (cond b p q)
limits_choice true p q h k = h
limits_choice false p q h k = k

pub limits_renew_all : (st : State) (leases : List (ℤ × ℤ)) → IsWithinLimits st → IsWithinLimits (fold renew_one st leases)
limits_renew_all st [] h = h
limits_renew_all st (l ∷ leases) h =
    limits_renew_all (renew_one st l) leases (limits_choice (is_some (first_that (renew_tests st l.0 l.1))) st (renew st l.0 l.1) h (limits_renew st l.0 l.1 h))

pub limits_cancel_all : (st : State) (leases : List ℤ) → IsWithinLimits st → IsWithinLimits (fold cancel_one st leases)
limits_cancel_all st [] h = h
limits_cancel_all st (l ∷ leases) h =
    limits_cancel_all (cancel_one st l) leases (limits_choice (is_some (first_that (lease_tests st l))) st (cancel st l) h (limits_cancel st l h))

-- Requests that add things keep the limits.
use Rattle.std.proofs.Common.{◌≡◌, ℕ, ℤ, zero, suc, ◌+◌, ◌-◌, ◌<◌, ◌≤◌, ◌^◌, Bool, true, false, not, cond, nat_lt, nat_le, List, [], ◌∷◌, ◌++◌, map, drop, take, length, Option, Some, None, is_some, refl, ap, sym, ◌∙◌, subst, arith, add-one}
use Rattle.std.specs.Prelude.{filter, find, filter_map, ◌&&◌, ◌||◌, ◌==◌, fold, unwrap_or, slice_get, bytes_eq}
use Rattle.std.specs.List.{list_all, list_any}
use Rattle.std.specs.Option.{option_map_or}
use Rattle.std.proofs.lemmas.Bool.{and_parts, and_from, lt-ltb, le-leb, leb-true}
use Rattle.std.proofs.lemmas.Bool.Decides.{nat_tests}
use Rattle.std.proofs.lemmas.List.{length-map}
use Rattle.std.proofs.lemmas.List.Quantifiers.{position-Some}
use Rattle.jsp_types.specs.Matching.{is_unknown, is_bad, is_small, is_small_template, template_of}
use Rattle.jsp_types.specs.declared.entry.Raw.{Raw}
use Rattle.jsp_wire.specs.declared.ask.Notify.{Notify}
use Rattle.jsp_wire.specs.declared.ask.Contents.{Contents}
use Rattle.jsp_lease.specs.Granted.{ms_of}
use Rattle.jsp_model.specs.declared.state.State.{State}
use Rattle.jsp_model.specs.declared.state.Space.{Space}
use Rattle.jsp_model.specs.declared.state.Row.{Row}
use Rattle.jsp_model.specs.declared.state.Registration.{Registration}
use Rattle.jsp_model.specs.declared.state.Blocked.{Blocked}
use Rattle.jsp_model.specs.declared.state.Transaction.{Transaction}
use Rattle.jsp_model.specs.declared.state.Joined.{Joined}
use Rattle.jsp_model.specs.declared.state.MatchSet.{MatchSet}
use Rattle.jsp_model.specs.Config.{are_space_names}
use Rattle.jsp_model.specs.Lookup.{is_voting, update, is_caller, space_named, crash_count, transaction_of, joined_at, waiting_count}
use Rattle.jsp_model.specs.Requests.{WriteRequest, RowRequest, caller_of, place_of, as_blocked, would_block}
use Rattle.jsp_model.specs.Answers.{is_many}
use Rattle.jsp_model.specs.Changes.{newly_joined, join, add_row, new_row, write, give, block, give_or_block, register, begin, open_set, leave_active, ask_commit, reset}
use Rattle.jsp_model.specs.Limits.{is_end, is_row, is_registration, is_blocked, is_transaction, is_set, is_joined, are_apart, AreSpaces, IsWithinLimits}
use Rattle.jsp_limits.proofs.Lists.{Fewer, fewer_at, fewer_filter, count_fewer, all_push, one_if, count_push, apart_push, any_parts}
use Rattle.jsp_limits.proofs.Kept.{sessions_stay, transactions_stay, commits_stay, TransactionAfter, BlockedAfter, transaction_same, row_same, registration_same, blocked_same, set_same, after_change}
use Rattle.jsp_limits.proofs.Added.{row_added, registration_added, blocked_added, commit_added, transaction_added, set_added}
use Rattle.jsp_limits.proofs.Goes.{after_transactions, limits_give, limits_leave, lease_end}
use Rattle.jsp_limits.proofs.Classes.{entry_small, templates_small}

-- ---- tests that failed

pub not_over : (m n : ℕ) → nat_lt m n ≡ false → n ≤ m
not_over m n e = grind (arith, nat_tests)

pub not_full : (m n : ℕ) → nat_le m n ≡ false → n < m
not_full m n e = grind (arith, nat_tests)

pub and_fails : (a b : Bool) → a ≡ true → (a && b) ≡ false → b ≡ false
and_fails true b e k = k
and_fails false b e k = absurd (cc)

-- ---- spaces

no_space : Space
no_space = record { name = []; crash_count = 0 }

some_spaces : (spaces : List Space) → are_space_names (map (λ p. p.name) spaces) ≡ true → 0 < length spaces
some_spaces [] h = absurd (cc)
some_spaces (p ∷ spaces) h = omega arith

-- a name stands for a place that is there
pub place_below : (st : State) (name : List ℕ) → IsWithinLimits st → nat_lt (place_of st name) (length st.spaces) ≡ true
place_below st name h = lt-ltb (place_of st name) (length st.spaces) (go (space_named st name) refl)
  where
    go : (o : Option ℕ) → space_named st name ≡ o → unwrap_or o 0 < length st.spaces
    go None e = some_spaces st.spaces h.spaces.names
    go (Some i) e = (position-Some (λ p. bytes_eq p.name name) st.spaces i no_space e).0

crash_small : (spaces : List Space) (space : ℕ) → list_all (λ (p : Space). nat_le p.crash_count (2 ^ 32 - 1)) spaces ≡ true → option_map_or (λ (p : Space). p.crash_count) (slice_get spaces space) 0 ≤ 2 ^ 32 - 1
crash_small [] space h = omega arith
crash_small (p ∷ spaces) zero h =
    let both = and_parts (nat_le p.crash_count (2 ^ 32 - 1)) (list_all (λ (p : Space). nat_le p.crash_count (2 ^ 32 - 1)) spaces) h in
    leb-true p.crash_count (2 ^ 32 - 1) both.0
crash_small (p ∷ spaces) (suc n) h =
    let both = and_parts (nat_le p.crash_count (2 ^ 32 - 1)) (list_all (λ (p : Space). nat_le p.crash_count (2 ^ 32 - 1)) spaces) h in
    crash_small spaces n both.1

-- ---- joining

one_joined : (spaces : ℕ) (j : Joined) (t : Transaction) → is_joined spaces j ≡ true → is_some (find (λ (k : Joined). k.space == j.space) t.joined) ≡ false → TransactionAfter spaces t (record t { joined = t.joined ++ j ∷ [] })
one_joined spaces j t is new = record {
  number = refl;
  fits = λ e. (
      let outer = and_parts (is_end t.end && list_all (is_joined spaces) t.joined) (are_apart (map (λ (j : Joined). j.space) t.joined)) e in
      let inner = and_parts (is_end t.end) (list_all (is_joined spaces) t.joined) outer.0 in
      let js : List Joined = t.joined ++ j ∷ [] in
      let apart = apart_push (λ (j : Joined). j.space) t.joined j outer.1 new in
      and_from (is_end t.end && list_all (is_joined spaces) js) (are_apart (map (λ (j : Joined). j.space) js))
      (and_from (is_end t.end) (list_all (is_joined spaces) js) inner.0 (all_push (is_joined spaces) t.joined j inner.1 is)) apart);
}

-- the state after a joining
pub record Joining (st : State) (after : State) : Type 0 where
  pub ts : List Transaction
  pub is : after ≡ record st { transactions = ts }
  pub limits : IsWithinLimits (record st { transactions = ts })

joining_new : (st : State) (x space : ℕ) (b : Bool) → is_some (joined_at st x space) ≡ b → nat_lt space (length st.spaces) ≡ true → IsWithinLimits st
    → Joining st (cond b st (record st { transactions = update (λ t. t.number == x) (λ (t : Transaction). record t { joined = t.joined ++ newly_joined st space ∷ [] }) st.transactions }))
joining_new st x space true e below h = record { ts = st.transactions; is = refl; limits = h }
joining_new st x space false e below h =
    let n = length st.spaces in
    let j = newly_joined st space in
    let joins : Transaction → Transaction = λ t. record t { joined = t.joined ++ j ∷ [] } in
    let small = le-leb (crash_count st space) (2 ^ 32 - 1) (crash_small st.spaces space h.spaces.crash_counts) in
    let fits : is_joined n j ≡ true = and_from (nat_lt space n) (nat_le (crash_count st space) (2 ^ 32 - 1)) below small in
    let absent : (t : Transaction) → transaction_of st x ≡ Some t → is_some (find (λ (k : Joined). k.space == space) t.joined) ≡ false = λ t q. rw q at e in
    record {
      ts = update (λ t. t.number == x) joins st.transactions;
      is = refl;
      limits = after_transactions st (update (λ t. t.number == x) joins st.transactions)
          (fewer_at (transaction_same n) (λ (t : Transaction). t.number) joins x 0 st.next_number st.transactions h.transactions.rising (λ t q. one_joined n j t fits (absent t q))) h;
    }

pub joining : (st : State) (caller : Option ℕ) (space : ℕ) → nat_lt space (length st.spaces) ≡ true → IsWithinLimits st → Joining st (join st caller space)
joining st None space below h = record { ts = st.transactions; is = refl; limits = h }
joining st (Some x) space below h = joining_new st x space (is_some (joined_at st x space)) refl below h

-- ---- writing

-- there is room for these entries
pub record Room (b : State) (w : WriteRequest) (es : List Raw) : Type 0 where
  pub limits : IsWithinLimits b
  pub rows : length (filter (λ (r : Row). r.space == place_of b w.space) b.rows) + length es ≤ 65536
  pub numbers : b.next_number + length es ≤ 2 ^ 62 + 1
  pub known : list_any (is_unknown b.classes) es ≡ false
  pub good : list_any (is_bad b.classes) es ≡ false

written : (b : State) (w : WriteRequest) (raw : Raw) (es : List Raw) → Room b w (raw ∷ es) → Room (add_row b (new_row b w raw)) w es
written b w raw es r =
    let h = r.limits in
    let row = new_row b w raw in
    let known = any_parts (is_unknown b.classes) raw es r.known in
    let good = any_parts (is_bad b.classes) raw es r.good in
    let below = place_below b w.space h in
    let fits : is_row (length b.spaces) row ≡ true = and_from (nat_lt row.space (length b.spaces) && is_end row.end) (is_small row.entry) (and_from (nat_lt row.space (length b.spaces)) (is_end row.end) below (lease_end b.time w.lease h.time)) (entry_small b.classes raw h.classes known.0 good.0) in
    let in_space = r.rows in
    let left = r.numbers in
    let room : length (filter (λ (r : Row). r.space == row.space) b.rows) < 65536 = omega (arith, in_space) in
    let drawn : b.next_number < 2 ^ 62 + 1 = omega (arith, left) in
    let count = count_push (λ (r : Row). r.space == place_of b w.space) b.rows row in
    let one : one_if (row.space == place_of b w.space) ≤ 1 = elim (row.space == place_of b w.space) as (λ c. one_if c ≤ 1) [ true ↦ omega arith | false ↦ omega arith ] in
    record {
      limits = row_added b row h refl fits room drawn;
      rows = omega (arith, in_space, count, one);
      numbers = omega (arith, left);
      known = known.1;
      good = good.1;
    }

all_written : (w : WriteRequest) (es : List Raw) (b : State) → Room b w es → IsWithinLimits (fold (λ b raw. add_row b (new_row b w raw)) b es)
all_written w [] b r = r.limits
all_written w (raw ∷ es) b r = all_written w es (add_row b (new_row b w raw)) (written b w raw es r)

pub limits_write : (st : State) (w : WriteRequest) → Room st w w.entries → IsWithinLimits (write st w)
limits_write st w r =
    let j = joining st (caller_of w.txn) (place_of st w.space) (place_below st w.space r.limits) r.limits in
    subst (λ (k : State). IsWithinLimits (fold (λ b raw. add_row b (new_row b w raw)) k w.entries)) (sym j.is)
    (all_written w w.entries (record st { transactions = j.ts }) (record { limits = j.limits; rows = r.rows; numbers = r.numbers; known = r.known; good = r.good }))

-- ---- requests for rows

-- what the wire asks of a request for rows, and what its tests leave
pub record Seeks (st : State) (s id : ℕ) (q : RowRequest) : Type 0 where
  pub some_templates : nat_le 1 (length q.templates) ≡ true
  pub few_templates : nat_le (length q.templates) 8 ≡ true
  pub some_rows : nat_le 1 q.most ≡ true
  pub few_rows : nat_le q.most 16 ≡ true
  pub one_or_many : (is_many q.form || q.most == 1) ≡ true
  pub known : list_any (is_unknown st.classes) (filter_map (λ t. t) q.templates) ≡ false
  pub good : list_any (is_bad st.classes) (filter_map (λ t. t) q.templates) ≡ false
  pub waiting : (would_block st s id q && nat_le 64 (waiting_count st s)) ≡ false
  pub numbers : (would_block st s id q && nat_lt (2 ^ 62 + 1) (st.next_number + 1)) ≡ false

pub blocked_fits : (st : State) (s id : ℕ) (q : RowRequest) → IsWithinLimits st → Seeks st s id q → is_blocked (length st.spaces) (as_blocked st s id q) ≡ true
blocked_fits st s id q h k =
    let b = as_blocked st s id q in
    let n = length st.spaces in
    let as_many = length-map q.templates (template_of st.classes) in
    let end = le-leb b.end (2 ^ 62 + 1) (omega arith) in
    let some : nat_le 1 (length b.templates) ≡ true = ap (nat_le 1) as_many ∙ k.some_templates in
    let few : nat_le (length b.templates) 8 ≡ true = ap (λ i. nat_le i 8) as_many ∙ k.few_templates in
    let small = templates_small st.classes q.templates h.classes k.known k.good in
    and_from _ _ (and_from _ _ (and_from _ _ (and_from _ _ (and_from _ _ (and_from _ _ (and_from (nat_lt b.space n) (nat_le b.end (2 ^ 62 + 1)) (place_below st q.space h) end) small) some) few) k.some_rows) k.few_rows) k.one_or_many

pub limits_seek : (st : State) (s id : ℕ) (q : RowRequest) (ns : List ℕ) → IsWithinLimits st → Seeks st s id q → IsWithinLimits (give_or_block st s id q ns)
limits_seek st s id q ns h k =
    let b = as_blocked st s id q in
    let j = joining st (caller_of q.txn) (place_of st q.space) (place_below st q.space h) h in
    subst (λ (a : State). IsWithinLimits (cond (would_block st s id q) (block a b) (give a b ns))) (sym j.is)
    (go (would_block st s id q) refl j.ts j.limits)
  where
    go : (w : Bool) → would_block st s id q ≡ w → (ts : List Transaction) → IsWithinLimits (record st { transactions = ts })
        → IsWithinLimits (cond w (block (record st { transactions = ts }) (as_blocked st s id q)) (give (record st { transactions = ts }) (as_blocked st s id q) ns))
    go true e ts g =
        let few : waiting_count st s < 64 = not_full 64 (waiting_count st s) (and_fails (would_block st s id q) (nat_le 64 (waiting_count st s)) e k.waiting) in
        let left = not_over (2 ^ 62 + 1) (st.next_number + 1) (and_fails (would_block st s id q) (nat_lt (2 ^ 62 + 1) (st.next_number + 1)) e k.numbers) in
        let drawn : st.next_number < 2 ^ 62 + 1 = omega (arith, left) in
        blocked_added (record st { transactions = ts }) (as_blocked st s id q) g refl (blocked_fits st s id q h k) few drawn
    go false e ts g = limits_give (record st { transactions = ts }) (as_blocked st s id q) ns g

-- ---- registrations, transactions, match sets

-- what the tests of a lease leave
pub record Leases (st : State) (template : Option Raw) (count most : ℕ) : Type 0 where
  pub known : list_any (is_unknown st.classes) (filter_map (λ t. t) (template ∷ [])) ≡ false
  pub good : list_any (is_bad st.classes) (filter_map (λ t. t) (template ∷ [])) ≡ false
  pub room : nat_le most count ≡ false
  pub numbers : nat_lt (2 ^ 62 + 1) (st.next_number + 1) ≡ false

template_fits : (st : State) (template : Option Raw) (count most : ℕ) → IsWithinLimits st → Leases st template count most → is_small_template (template_of st.classes template) ≡ true
template_fits st template count most h k = (and_parts (is_small_template (template_of st.classes template)) true (templates_small st.classes (template ∷ []) h.classes k.known k.good)).0

pub limits_register : (st : State) (s : ℕ) (q : Notify) → IsWithinLimits st → Leases st q.template (length st.registrations) 4096 → nat_le (length q.handback) 256 ≡ true → IsWithinLimits (register st s q)
limits_register st s q h k short =
    let n = length st.spaces in
    let space = place_of st q.space in
    let j = joining st (caller_of q.txn) space (place_below st q.space h) h in
    let r : Registration = record {
      number = st.next_number;
      space = space;
      template = template_of st.classes q.template;
      transaction = caller_of q.txn;
      session = s;
      handback = q.handback;
      end = st.time + ms_of q.lease;
      sequence = 0;
      owed = [];
    } in
    let fits : is_registration n r ≡ true =
    and_from _ _ (and_from _ _ (and_from (nat_lt space n) (is_end r.end) (place_below st q.space h) (lease_end st.time q.lease h.time)) (template_fits st q.template (length st.registrations) 4096 h k)) short in
    let room = not_full 4096 (length st.registrations) k.room in
    let left = not_over (2 ^ 62 + 1) (st.next_number + 1) k.numbers in
    let drawn : st.next_number < 2 ^ 62 + 1 = omega (arith, left) in
    subst (λ (a : State). IsWithinLimits (record a { registrations = st.registrations ++ r ∷ []; next_number = st.next_number + 1 })) (sym j.is)
    (registration_added (record st { transactions = j.ts }) r j.limits refl fits refl refl room drawn)

pub limits_open_set : (st : State) (s : ℕ) (q : Contents) → IsWithinLimits st → Leases st q.template (length st.sets) 1024 → IsWithinLimits (open_set st s q)
limits_open_set st s q h k =
    let n = length st.spaces in
    let space = place_of st q.space in
    let j = joining st (caller_of q.txn) space (place_below st q.space h) h in
    let m : MatchSet = record {
      number = st.next_number;
      session = s;
      space = space;
      template = template_of st.classes q.template;
      transaction = caller_of q.txn;
      end = st.time + ms_of q.lease;
      cursor = 0;
    } in
    let fits : is_set n m ≡ true =
    and_from _ _ (and_from (nat_lt space n) (is_end m.end) (place_below st q.space h) (lease_end st.time q.lease h.time)) (template_fits st q.template (length st.sets) 1024 h k) in
    let room = not_full 1024 (length st.sets) k.room in
    let left = not_over (2 ^ 62 + 1) (st.next_number + 1) k.numbers in
    let drawn : st.next_number < 2 ^ 62 + 1 = omega (arith, left) in
    subst (λ (a : State). IsWithinLimits (record a { sets = st.sets ++ m ∷ []; next_number = st.next_number + 1 })) (sym j.is)
    (set_added (record st { transactions = j.ts }) m j.limits refl fits room drawn)

pub limits_begin : (st : State) (lease : ℤ) → IsWithinLimits st → nat_le 1024 (length st.transactions) ≡ false → nat_lt (2 ^ 62 + 1) (st.next_number + 1) ≡ false → IsWithinLimits (begin st lease)
limits_begin st lease h room numbers =
    let left = not_over (2 ^ 62 + 1) (st.next_number + 1) numbers in
    let drawn : st.next_number < 2 ^ 62 + 1 = omega (arith, left) in
    let t : Transaction = record { number = st.next_number; end = st.time + ms_of lease; joined = [] } in
    let fits : is_transaction (length st.spaces) t ≡ true = and_from (is_end t.end && true) true (and_from (is_end t.end) true (lease_end st.time lease h.time) refl) refl in
    transaction_added st t h refl fits (not_full 1024 (length st.transactions) room) drawn

pub limits_ask_commit : (st : State) (s id x : ℕ) → IsWithinLimits st → is_voting st x ≡ false → nat_le 64 (waiting_count st s) ≡ false → IsWithinLimits (ask_commit st s id x)
limits_ask_commit st s id x h active room =
    let left = limits_leave st x h in
    let few = not_full 64 (waiting_count st s) room in
    let gone : Fewer BlockedAfter st.blocked (filter (λ (b : Blocked). not (is_caller b.transaction x)) st.blocked) = fewer_filter blocked_same (λ b. not (is_caller b.transaction x)) st.blocked in
    let fewer = count_fewer (λ (b : Blocked). b.session == s) (λ b d k e. rw (sym k.is) e) gone in
    commit_added (leave_active st x) (record { transaction = x; session = s; id = id }) left active (omega (arith, few, fewer))

-- ---- reset

abbrev reset_once : Space → Space
reset_once p = record p { crash_count = p.crash_count + 1 }

-- the spaces after a reset
abbrev reset_at : ℕ → List Space → List Space
reset_at space spaces = take space spaces ++ map reset_once (take 1 (drop space spaces)) ++ drop (space + 1) spaces

reset_later : (n : ℕ) (p : Space) (spaces : List Space) → reset_at (suc n) (p ∷ spaces) ≡ p ∷ reset_at n spaces
reset_later n p spaces = rw (add-one, add-one) refl

reset_none : (space : ℕ) → reset_at space [] ≡ []
reset_none zero = refl
reset_none (suc n) = rw add-one refl

reset_names : (space : ℕ) (spaces : List Space) → map (λ (p : Space). p.name) (reset_at space spaces) ≡ map (λ (p : Space). p.name) spaces
reset_names space [] = ap (map (λ (p : Space). p.name)) (reset_none space)
reset_names zero (p ∷ spaces) = refl
reset_names (suc n) (p ∷ spaces) = ap (map (λ (p : Space). p.name)) (reset_later n p spaces) ∙ ap (λ ns. p.name ∷ ns) (reset_names n spaces)

reset_counts : (space : ℕ) (spaces : List Space) → option_map_or (λ (p : Space). p.crash_count) (slice_get spaces space) 0 < 2 ^ 32 - 1 → list_all (λ (p : Space). nat_le p.crash_count (2 ^ 32 - 1)) spaces ≡ true → list_all (λ (p : Space). nat_le p.crash_count (2 ^ 32 - 1)) (reset_at space spaces) ≡ true
reset_counts space [] l h = ap (list_all (λ (p : Space). nat_le p.crash_count (2 ^ 32 - 1))) (reset_none space)
reset_counts zero (p ∷ spaces) l h =
    let both = and_parts (nat_le p.crash_count (2 ^ 32 - 1)) (list_all (λ (p : Space). nat_le p.crash_count (2 ^ 32 - 1)) spaces) h in
    and_from (nat_le (p.crash_count + 1) (2 ^ 32 - 1)) (list_all (λ (p : Space). nat_le p.crash_count (2 ^ 32 - 1)) spaces) (le-leb (p.crash_count + 1) (2 ^ 32 - 1) (omega (arith, l))) both.1
reset_counts (suc n) (p ∷ spaces) l h =
    let both = and_parts (nat_le p.crash_count (2 ^ 32 - 1)) (list_all (λ (p : Space). nat_le p.crash_count (2 ^ 32 - 1)) spaces) h in
    ap (list_all (λ (p : Space). nat_le p.crash_count (2 ^ 32 - 1))) (reset_later n p spaces)
    ∙ and_from (nat_le p.crash_count (2 ^ 32 - 1)) (list_all (λ (p : Space). nat_le p.crash_count (2 ^ 32 - 1)) (reset_at n spaces)) both.0 (reset_counts n spaces l both.1)

limits_spaces : (st : State) (spaces : List Space) → IsWithinLimits st → AreSpaces spaces → length spaces ≡ length st.spaces → IsWithinLimits (record st { spaces = spaces })
limits_spaces st spaces h are same = record {
  classes = h.classes;
  spaces = are;
  sessions = h.sessions;
  time = h.time;
  next_number = h.next_number;
  rows = rw same h.rows;
  registrations = rw same h.registrations;
  sequences = h.sequences;
  blocked = rw same h.blocked;
  transactions = rw same h.transactions;
  sets = rw same h.sets;
  commits = h.commits;
  waiting = h.waiting;
  numbers = h.numbers;
  outboxes = h.outboxes;
}

pub limits_reset : (st : State) (space : ℕ) → IsWithinLimits st → nat_le (2 ^ 32 - 1) (crash_count st space) ≡ false → IsWithinLimits (reset st space)
limits_reset st space h room =
    let n = length st.spaces in
    let emptied = after_change st st.sessions (filter (λ (r : Row). not (r.space == space)) st.rows) (filter (λ (r : Registration). not (r.space == space)) st.registrations) (filter (λ (b : Blocked). not (b.space == space && is_some b.transaction)) st.blocked) st.transactions st.commits (filter (λ (m : MatchSet). not (m.space == space)) st.sets)
    (record {
      of_sessions = sessions_stay st;
      of_rows = fewer_filter (row_same n) (λ r. not (r.space == space)) st.rows;
      of_registrations = fewer_filter (registration_same n) (λ r. not (r.space == space)) st.registrations;
      of_blocked = fewer_filter blocked_same (λ b. not (b.space == space && is_some b.transaction)) st.blocked;
      of_transactions = transactions_stay st;
      of_commits = commits_stay st;
      of_sets = fewer_filter (set_same n) (λ m. not (m.space == space)) st.sets;
    }) h in
    let names = reset_names space st.spaces in
    let spaces : List Space = reset_at space st.spaces in
    let few = not_full (2 ^ 32 - 1) (crash_count st space) room in
    let long : length spaces ≡ length st.spaces = sym (length-map spaces (λ (p : Space). p.name)) ∙ ap length names ∙ length-map st.spaces (λ (p : Space). p.name) in
    limits_spaces (record st { rows = filter (λ (r : Row). not (r.space == space)) st.rows; registrations = filter (λ (r : Registration). not (r.space == space)) st.registrations; blocked = filter (λ (b : Blocked). not (b.space == space && is_some b.transaction)) st.blocked; sets = filter (λ (m : MatchSet). not (m.space == space)) st.sets })
    spaces emptied (record { names = ap are_space_names names ∙ h.spaces.names; crash_counts = reset_counts space st.spaces few h.spaces.crash_counts }) long

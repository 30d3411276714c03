-- What requests and steps change.
use Rattle.std.specs.Prelude.{ℕ, ℤ, ◌+◌, Bool, true, false, not, if◌then◌else◌, ◌&&◌, ◌||◌, ◌==◌, nat_lt, nat_le, List, [], ◌∷◌, ◌++◌, map, length, drop, take, filter, flat_map, fold, Option, Some, None, is_some, unwrap_or}
use Rattle.std.specs.List.{list_any, last_or}
use Rattle.std.specs.Option.{option_map_or}
use Rattle.jsp_types.specs.Classes.{declared}
use Rattle.jsp_types.specs.Tests.{first_that}
use Rattle.jsp_types.specs.Matching.{matches, entry_of, template_of}
use Rattle.jsp_types.specs.declared.entry.Raw.{Raw}
use Rattle.jsp_wire.specs.declared.ask.Ask.{Ask}
use Rattle.jsp_wire.specs.declared.ask.Ask.TheVariants as ask
use Rattle.jsp_wire.specs.declared.ask.Version.{Version}
use Rattle.jsp_wire.specs.declared.ask.Version.TheVariants as version
use Rattle.jsp_wire.specs.declared.ask.Notify.{Notify}
use Rattle.jsp_wire.specs.declared.ask.Contents.{Contents}
use Rattle.jsp_model.specs.declared.state.State.{State}
use Rattle.jsp_model.specs.declared.state.Session.{Session}
use Rattle.jsp_model.specs.declared.state.Space.{Space}
use Rattle.jsp_model.specs.declared.state.Row.{Row}
use Rattle.jsp_model.specs.declared.state.Registration.{Registration}
use Rattle.jsp_model.specs.declared.state.Blocked.{Blocked}
use Rattle.jsp_model.specs.declared.state.Transaction.{Transaction}
use Rattle.jsp_model.specs.declared.state.Joined.{Joined}
use Rattle.jsp_model.specs.declared.state.MatchSet.{MatchSet}
use Rattle.jsp_lease.specs.declared.item.Rank.{Rank}
use Rattle.jsp_lease.specs.declared.item.Rank.TheVariants as rank
use Rattle.jsp_model.specs.declared.state.Vote.{Vote}
use Rattle.jsp_model.specs.declared.state.Vote.TheVariants as vote
use Rattle.jsp_model.specs.declared.state.Form.TheVariants as form
use Rattle.jsp_model.specs.Lookup.{update, rank_of, named, contains, crash_count, is_caller, joined_at, set_of}
use Rattle.jsp_model.specs.Sight.{is_take, readable}
use Rattle.jsp_lease.specs.Granted.{ms_of}
use Rattle.jsp_model.specs.Refusals.{lease_tests, renew_tests}
use Rattle.jsp_model.specs.Requests.{WriteRequest, RowRequest, one_entry, all_entries, one_row, many_rows, caller_of, place_of, as_blocked, would_block, class_asked}

-- ---- sessions

abbrev pub open_session : State → ℕ → State
open_session st s = record st { sessions = st.sessions ++ record { number = s; version = version.One } ∷ []; last_session = s }

-- what it waits for goes without answer; rows and transactions stay
abbrev pub close : State → ℕ → State
close st s =
    record st {
      sessions = filter (λ k. not (k.number == s)) st.sessions;
      blocked = filter (λ b. not (b.session == s)) st.blocked;
      registrations = filter (λ r. not (r.session == s)) st.registrations;
      sets = filter (λ m. not (m.session == s)) st.sets;
    }

abbrev pub set_version : State → ℕ → Version → State
set_version st s v = record st { sessions = update (λ k. k.number == s) (λ (k : Session). record k { version = v }) st.sessions }

-- ---- joining

abbrev pub newly_joined : State → ℕ → Joined
newly_joined st space = record { space = space; crash_count = crash_count st space; vote = None }

-- the space joins the transaction, unless it has or there is none
abbrev pub join : State → Option ℕ → ℕ → State
join st None space = st
join st (Some x) space =
    if is_some (joined_at st x space) then st
    else record st { transactions = update (λ t. t.number == x) (λ (t : Transaction). record t { joined = t.joined ++ newly_joined st space ∷ [] }) st.transactions }

-- ---- writing, and what registrations are owed

-- a write under a transaction is for those under it; another one for each
abbrev pub hears : Option ℕ → Registration → Bool
hears None r = true
hears (Some x) r = is_caller r.transaction x

abbrev pub owe : Option ℕ → State → Row → State
owe x st row =
    record st {
      registrations = update (λ r. hears x r && r.space == row.space && matches st.classes r.template row.entry) (λ (r : Registration). record r { owed = r.owed ++ row.number ∷ [] })
          st.registrations;
    }

abbrev pub add_row : State → Row → State
add_row st row = owe row.writer (record st { rows = st.rows ++ row ∷ []; next_number = st.next_number + 1 }) row

abbrev pub new_row : State → WriteRequest → Raw → Row
new_row st w raw =
    record {
      number = st.next_number;
      space = place_of st w.space;
      entry = entry_of st.classes raw;
      end = st.time + ms_of w.lease;
      writer = caller_of w.txn;
      readers = [];
      taker = None;
    }

abbrev pub write : State → WriteRequest → State
write st w = fold (λ st raw. add_row st (new_row st w raw)) (join st (caller_of w.txn) (place_of st w.space)) w.entries

-- ---- reading and taking

abbrev pub read_by : Option ℕ → Row → List Row
read_by None row = row ∷ []
read_by (Some x) row = record row { readers = if contains row.readers x then row.readers else row.readers ++ x ∷ [] } ∷ []

abbrev pub taken_by : Option ℕ → Row → List Row
taken_by None row = []
taken_by (Some x) row = record row { taker = Some x } ∷ []

-- the rows are given to the request
abbrev pub give : State → Blocked → List ℕ → State
give st b ns =
    record st { rows = flat_map (λ row. if contains ns row.number then (if is_take b.form then taken_by b.transaction row else read_by b.transaction row) else row ∷ []) st.rows }

abbrev pub block : State → Blocked → State
block st b = record st { blocked = st.blocked ++ b ∷ []; next_number = st.next_number + 1 }

abbrev pub unblock : State → ℕ → State
unblock st n = record st { blocked = filter (λ b. not (b.number == n)) st.blocked }

abbrev pub give_or_block : State → ℕ → ℕ → RowRequest → List ℕ → State
give_or_block st s id q ns =
    let b = as_blocked st s id q in
    let joined = join st b.transaction b.space in
    if would_block st s id q then block joined b else give joined b ns

-- ---- registrations, transactions, match sets

abbrev pub register : State → ℕ → Notify → State
register st s q =
    let x = caller_of q.txn in
    let space = place_of st q.space in
    let joined = join st x space in
    record joined {
      registrations = st.registrations ++ record {
        number = st.next_number;
        space = space;
        template = template_of st.classes q.template;
        transaction = x;
        session = s;
        handback = q.handback;
        end = st.time + ms_of q.lease;
        sequence = 0;
        owed = [];
      } ∷ [];
      next_number = st.next_number + 1;
    }

abbrev pub tell : State → ℕ → State
tell st n =
    record st { registrations = update (λ r. r.number == n) (λ (r : Registration). record r { owed = drop 1 r.owed; sequence = r.sequence + 1 }) st.registrations }

abbrev pub begin : State → ℤ → State
begin st lease =
    record st {
      transactions = st.transactions ++ record { number = st.next_number; end = st.time + ms_of lease; joined = [] } ∷ [];
      next_number = st.next_number + 1;
    }

abbrev pub open_set : State → ℕ → Contents → State
open_set st s q =
    let x = caller_of q.txn in
    let space = place_of st q.space in
    let joined = join st x space in
    record joined {
      sets = st.sets ++ record {
        number = st.next_number;
        session = s;
        space = space;
        template = template_of st.classes q.template;
        transaction = x;
        end = st.time + ms_of q.lease;
        cursor = 0;
      } ∷ [];
      next_number = st.next_number + 1;
    }

-- the rows that a match set may still show
abbrev pub rest_of_set : State → MatchSet → List Row
rest_of_set st m =
    filter (λ row. row.space == m.space && nat_lt m.cursor row.number && nat_lt row.number m.number
    && readable m.transaction row && matches st.classes m.template row.entry) st.rows

-- the rows that its next page shows
abbrev pub page_of : State → ℕ → ℕ → List Row
page_of st n most = option_map_or (λ m. take most (rest_of_set st m)) (set_of st n) []

-- none is left beyond the page
abbrev pub is_last_page : State → ℕ → ℕ → Bool
is_last_page st n most = option_map_or (λ m. nat_le (length (rest_of_set st m)) most) (set_of st n) true

-- its cursor goes to the last row of the page, if any
abbrev pub turn_page : State → ℕ → ℕ → State
turn_page st n most =
    let last = last_or None (map (λ row. row.number) (page_of st n most)) in
    record st { sets = update (λ m. m.number == n) (λ (m : MatchSet). record m { cursor = unwrap_or last m.cursor }) st.sets }

abbrev pub close_set : State → ℕ → State
close_set st n = record st { sets = filter (λ m. not (m.number == n)) st.sets }

-- ---- the end of a transaction

abbrev pub unread : ℕ → Row → Row
unread x row = record row { readers = filter (λ y. not (y == x)) row.readers }

-- its blocked requests and match sets go
abbrev pub leave_active : State → ℕ → State
leave_active st x =
    record st {
      blocked = filter (λ b. not (is_caller b.transaction x)) st.blocked;
      sets = filter (λ m. not (is_caller m.transaction x)) st.sets;
    }

abbrev pub forget : State → ℕ → State
forget st x =
    record (leave_active st x) {
      registrations = filter (λ r. not (is_caller r.transaction x)) st.registrations;
      transactions = filter (λ t. not (t.number == x)) st.transactions;
      commits = filter (λ c. not (c.transaction == x)) st.commits;
    }

-- the rows that it wrote go, and its other marks
abbrev pub aborted : ℕ → List Row → List Row
aborted x rows =
    map (unread x) (update (λ row. is_caller row.taker x) (λ (row : Row). record row { taker = None }) (filter (λ row. not (is_caller row.writer x)) rows))

abbrev pub abort : State → ℕ → State
abort st x = record (forget st x) { rows = aborted x st.rows }

-- the rows that it took go, those that it wrote become everyone's, and its read marks go
abbrev pub committed : ℕ → List Row → List Row
committed x rows =
    map (unread x) (update (λ row. is_caller row.writer x) (λ (row : Row). record row { writer = None }) (filter (λ row. not (is_caller row.taker x)) rows))

abbrev pub published : ℕ → List Row → List Row
published x rows = filter (λ row. is_caller row.writer x && not (is_caller row.taker x)) rows

abbrev pub commit : State → ℕ → State
commit st x = fold (owe None) (record (forget st x) { rows = committed x st.rows }) (published x st.rows)

-- the commit is asked
abbrev pub ask_commit : State → ℕ → ℕ → ℕ → State
ask_commit st s id x = record (leave_active st x) { commits = st.commits ++ record { transaction = x; session = s; id = id } ∷ [] }

-- ---- votes

abbrev pub has_changed : State → ℕ → ℕ → Bool
has_changed st x space = list_any (λ row. row.space == space && (is_caller row.writer x || is_caller row.taker x)) st.rows

-- what a joined space votes
abbrev pub vote_of : State → ℕ → Joined → Vote
vote_of st x j =
    if not (j.crash_count == crash_count st j.space) then vote.Aborted
    else if has_changed st x j.space then vote.Prepared
    else vote.NotChanged

abbrev pub is_not_changed : Vote → Bool
is_not_changed vote.NotChanged = true
is_not_changed _ = false

-- a space that is not changed forgets that the transaction read there
abbrev pub release : Vote → ℕ → ℕ → List Row → List Row
release v x space rows = update (λ row. is_not_changed v && row.space == space) (unread x) rows

abbrev pub cast : State → ℕ → Joined → State
cast st x j =
    let v = vote_of st x j in
    record st {
      rows = release v x j.space st.rows;
      transactions = update (λ t. t.number == x) (λ (t : Transaction). record t { joined = update (λ k. k.space == j.space) (λ (k : Joined). record k { vote = Some v }) t.joined }) st.transactions;
    }

abbrev pub cast_vote : State → ℕ → ℕ → State
cast_vote st x space = option_map_or (cast st x) (joined_at st x space) st

-- ---- leases and ends

abbrev pub drop_row : State → ℕ → State
drop_row st n = record st { rows = filter (λ r. not (r.number == n)) st.rows }

abbrev pub drop_registration : State → ℕ → State
drop_registration st n = record st { registrations = filter (λ r. not (r.number == n)) st.registrations }

-- it goes; a transaction aborts
abbrev pub remove : State → Rank → ℕ → State
remove st rank.Entry n = drop_row st n
remove st rank.Registration n = drop_registration st n
remove st rank.Transaction n = abort st n
remove st rank.Blocked n = unblock st n
remove st rank.MatchSet n = close_set st n

-- its end is this
abbrev pub extend : State → ℕ → Rank → ℕ → State
extend st end rank.Entry n = record st { rows = update (λ r. r.number == n) (λ (r : Row). record r { end = end }) st.rows }
extend st end rank.Registration n = record st { registrations = update (λ r. r.number == n) (λ (r : Registration). record r { end = end }) st.registrations }
extend st end rank.Transaction n = record st { transactions = update (λ t. t.number == n) (λ (t : Transaction). record t { end = end }) st.transactions }
extend st end rank.Blocked n = st
extend st end rank.MatchSet n = record st { sets = update (λ m. m.number == n) (λ (m : MatchSet). record m { end = end }) st.sets }

abbrev pub renew : State → ℤ → ℤ → State
renew st lease ms = option_map_or (λ r. extend st (st.time + ms_of ms) r (named lease)) (rank_of st (named lease)) st

abbrev pub cancel : State → ℤ → State
cancel st lease = option_map_or (λ r. remove st r (named lease)) (rank_of st (named lease)) st

-- one item of a batch; a refused one changes nothing
abbrev pub renew_one : State → ℤ × ℤ → State
renew_one st l = if is_some (first_that (renew_tests st l.0 l.1)) then st else renew st l.0 l.1

abbrev pub cancel_one : State → ℤ → State
cancel_one st lease = if is_some (first_that (lease_tests st lease)) then st else cancel st lease

-- ---- reset

abbrev pub reset : State → ℕ → State
reset st space =
    record st {
      spaces = take space st.spaces ++ map (λ (p : Space). record p { crash_count = p.crash_count + 1 }) (take 1 (drop space st.spaces)) ++ drop (space + 1) st.spaces;
      rows = filter (λ r. not (r.space == space)) st.rows;
      registrations = filter (λ r. not (r.space == space)) st.registrations;
      blocked = filter (λ b. not (b.space == space && is_some b.transaction)) st.blocked;
      sets = filter (λ m. not (m.space == space)) st.sets;
    }

-- ---- a request that isn't refused

abbrev pub accepted : State → ℕ → ℕ → List ℕ → Ask → State
accepted st s id ns (ask.Declare d) = record st { classes = declared st.classes (class_asked d) }
accepted st s id ns (ask.Write w) = write st (one_entry w)
accepted st s id ns (ask.Read q) = give_or_block st s id (one_row form.Read q) ns
accepted st s id ns (ask.ReadIf q) = give_or_block st s id (one_row form.ReadIf q) ns
accepted st s id ns (ask.Take q) = give_or_block st s id (one_row form.Take q) ns
accepted st s id ns (ask.TakeIf q) = give_or_block st s id (one_row form.TakeIf q) ns
accepted st s id ns (ask.Notify q) = register st s q
accepted st s id ns (ask.Renew lease ms) = renew st lease ms
accepted st s id ns (ask.Cancel lease) = cancel st lease
accepted st s id ns (ask.RenewAll leases) = fold renew_one st leases
accepted st s id ns (ask.CancelAll leases) = fold cancel_one st leases
accepted st s id ns (ask.Txn lease) = begin st lease
accepted st s id ns (ask.Commit x) = ask_commit st s id (named x)
accepted st s id ns (ask.Abort x) = abort st (named x)
accepted st s id ns (ask.State x) = st
accepted st s id ns (ask.Reset space) = reset st (place_of st space)
accepted st s id ns ask.Spaces = st
accepted st s id ns ask.Bye = close st s
accepted st s id ns (ask.Hello v) = set_version st s v
accepted st s id ns (ask.WriteAll w) = write st (all_entries w)
accepted st s id ns (ask.TakeMany q) = give_or_block st s id (many_rows q) ns
accepted st s id ns (ask.Contents q) = open_set st s q
accepted st s id ns (ask.Next set most) = turn_page st (named set) most
accepted st s id ns (ask.CloseSet set) = close_set st (named set)

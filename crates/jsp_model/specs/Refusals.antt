-- Why a request is refused: the first that applies.
use Rattle.std.specs.Prelude.{ℕ, ℤ, pos, negsuc, ◌+◌, Bool, true, false, not, ◌&&◌, ◌||◌, ◌==◌, nat_lt, nat_le, List, [], ◌∷◌, ◌++◌, length, filter, filter_map, find, Option, Some, is_none}
use Rattle.std.specs.List.{list_any}
use Rattle.std.specs.Option.{option_map_or}
use Rattle.jsp_types.specs.Classes.{is_ill_formed, differs, lacks_parent, inherits_badly, are_full}
use Rattle.jsp_types.specs.Tests.{first_that}
use Rattle.jsp_lease.specs.Granted.{granted}
use Rattle.jsp_types.specs.Matching.{is_unknown, is_bad}
use Rattle.jsp_types.specs.declared.entry.Raw.{Raw}
use Rattle.jsp_wire.specs.declared.ask.Ask.{Ask}
use Rattle.jsp_wire.specs.declared.ask.Ask.TheVariants as ask
use Rattle.jsp_wire.specs.declared.ask.Declare.{Declare}
use Rattle.jsp_reply.specs.declared.refusal.Refusal.{Refusal}
use Rattle.jsp_reply.specs.declared.refusal.Refusal.TheVariants.{IdInUse, TooManyWaiting, UnknownSpace, BadClass, Differs, UnknownClass, BadEntry, BadLease, BadTimeout, UnknownLease, UnknownTransaction, NotActive, TooMany, CrashCount, InDoubt, SpaceFull, UsedUp}
use Rattle.jsp_model.specs.declared.state.State.{State}
use Rattle.jsp_model.specs.declared.state.MatchSet.{MatchSet}
use Rattle.jsp_model.specs.declared.state.Vote.{Vote}
use Rattle.jsp_model.specs.declared.state.Vote.TheVariants as vote
use Rattle.jsp_model.specs.declared.state.Form.TheVariants as form
use Rattle.jsp_model.specs.Lookup.{rank_of, named, space_named, crash_count, is_living, is_voting, joined_at, is_waiting, waiting_count}
use Rattle.jsp_model.specs.Requests.{WriteRequest, RowRequest, caller_of, one_entry, all_entries, one_row, many_rows, place_of, would_block, class_asked}
use Rattle.jsp_model.specs.declared.limits.TheConstants.{LAST_CRASH_COUNT, LAST_NUMBER, MOST_REGISTRATIONS, MOST_ROWS, MOST_SETS, MOST_TRANSACTIONS, MOST_WAITING}

-- ---- tests

abbrev pub is_negative : ℤ → Bool
is_negative (pos n) = false
is_negative (negsuc n) = true

-- so many numbers more can't be drawn
abbrev pub is_used_up : State → ℕ → Bool
is_used_up st count = nat_lt (LAST_NUMBER + 1) (st.next_number + count)

-- the transaction joined the space under another crash count
abbrev pub joined_otherwise : State → Option ℕ → Option ℕ → Bool
joined_otherwise st (Some x) (Some space) = option_map_or (λ j. not (j.crash_count == crash_count st space)) (joined_at st x space) false
joined_otherwise st _ _ = false

abbrev pub rows_in : State → ℕ → ℕ
rows_in st space = length (filter (λ r. r.space == space) st.rows)

abbrev pub is_prepared : Option Vote → Bool
is_prepared (Some vote.Prepared) = true
is_prepared _ = false

-- a prepared vote of the space awaits its decision
abbrev pub is_in_doubt : State → ℕ → Bool
is_in_doubt st space = list_any (λ t. list_any (λ j. j.space == space && is_prepared j.vote) t.joined) st.transactions

-- the session's own match set
abbrev pub own_set : State → ℕ → ℤ → Option MatchSet
own_set st s set = find (λ m. m.number == named set && m.session == s) st.sets

-- ---- refusals, in their order

abbrev pub Tests : Type 0
Tests = List (Bool × Refusal)

-- of each operation at a space
abbrev pub space_tests : State → List ℕ → Option ℤ → Tests
space_tests st space txn =
    (is_none (space_named st space), UnknownSpace)
    ∷ (option_map_or (λ x. not (is_living st x)) (caller_of txn) false, UnknownTransaction)
    ∷ (option_map_or (is_voting st) (caller_of txn) false, NotActive)
    ∷ (joined_otherwise st (caller_of txn) (space_named st space), CrashCount)
    ∷ []

abbrev pub entry_tests : State → List Raw → Tests
entry_tests st raws = (list_any (is_unknown st.classes) raws, UnknownClass) ∷ (list_any (is_bad st.classes) raws, BadEntry) ∷ []

abbrev pub template_tests : State → List (Option Raw) → Tests
template_tests st raws = entry_tests st (filter_map (λ t. t) raws)

abbrev pub write_tests : State → WriteRequest → Tests
write_tests st w =
    space_tests st w.space w.txn ++ entry_tests st w.entries
    ++ (is_none (granted w.lease), BadLease)
    ∷ (nat_lt MOST_ROWS (rows_in st (place_of st w.space) + length w.entries), SpaceFull)
    ∷ (is_used_up st (length w.entries), UsedUp)
    ∷ []

-- only a request that would wait is refused because too many wait, or for its number
abbrev pub rows_tests : State → ℕ → ℕ → RowRequest → Tests
rows_tests st s id q =
    space_tests st q.space q.txn ++ template_tests st q.templates
    ++ (is_negative q.timeout, BadTimeout)
    ∷ (would_block st s id q && nat_le MOST_WAITING (waiting_count st s), TooManyWaiting)
    ∷ (would_block st s id q && is_used_up st 1, UsedUp)
    ∷ []

-- of a registration or a match set: there may be so many
abbrev pub grant_tests : State → List ℕ → Option Raw → ℤ → Option ℤ → Bool → Tests
grant_tests st space template lease txn is_full =
    space_tests st space txn ++ template_tests st (template ∷ [])
    ++ (is_none (granted lease), BadLease) ∷ (is_full, TooMany) ∷ (is_used_up st 1, UsedUp) ∷ []

-- of renewing or cancelling one lease
abbrev pub lease_tests : State → ℤ → Tests
lease_tests st lease = (is_none (rank_of st (named lease)), UnknownLease) ∷ (is_voting st (named lease), NotActive) ∷ []

abbrev pub renew_tests : State → ℤ → ℤ → Tests
renew_tests st lease ms = lease_tests st lease ++ (is_none (granted ms), BadLease) ∷ []

-- of a new transaction
abbrev pub begin_tests : State → ℤ → Tests
begin_tests st lease =
    (is_none (granted lease), BadLease) ∷ (nat_le MOST_TRANSACTIONS (length st.transactions), TooMany) ∷ (is_used_up st 1, UsedUp) ∷ []

-- of an operation on a transaction
abbrev pub txn_tests : State → ℤ → Tests
txn_tests st x = (not (is_living st (named x)), UnknownTransaction) ∷ []

abbrev pub commit_tests : State → ℕ → ℤ → Tests
commit_tests st s x = txn_tests st x ++ (is_voting st (named x), NotActive) ∷ (nat_le MOST_WAITING (waiting_count st s), TooManyWaiting) ∷ []

abbrev pub reset_tests : State → List ℕ → Tests
reset_tests st space =
    (is_none (space_named st space), UnknownSpace)
    ∷ (is_in_doubt st (place_of st space), InDoubt)
    ∷ (nat_le LAST_CRASH_COUNT (crash_count st (place_of st space)), UsedUp)
    ∷ []

-- of a match set of the session's own
abbrev pub set_tests : State → ℕ → ℤ → Tests
set_tests st s set = (is_none (own_set st s set), UnknownLease) ∷ []

abbrev pub declare_tests : State → Declare → Tests
declare_tests st d =
    (list_any (λ f. is_none f.1) d.fields || is_ill_formed (class_asked d), BadClass)
    ∷ (differs st.classes (class_asked d), Differs)
    ∷ (lacks_parent st.classes (class_asked d), UnknownClass)
    ∷ (inherits_badly st.classes (class_asked d), BadClass)
    ∷ (are_full st.classes (class_asked d), TooMany)
    ∷ []

-- of each operation, beside that of its id
abbrev pub own_tests : State → ℕ → ℕ → Ask → Tests
own_tests st s id (ask.Declare d) = declare_tests st d
own_tests st s id (ask.Write w) = write_tests st (one_entry w)
own_tests st s id (ask.Read q) = rows_tests st s id (one_row form.Read q)
own_tests st s id (ask.ReadIf q) = rows_tests st s id (one_row form.ReadIf q)
own_tests st s id (ask.Take q) = rows_tests st s id (one_row form.Take q)
own_tests st s id (ask.TakeIf q) = rows_tests st s id (one_row form.TakeIf q)
own_tests st s id (ask.Notify q) = grant_tests st q.space q.template q.lease q.txn (nat_le MOST_REGISTRATIONS (length st.registrations))
own_tests st s id (ask.Renew lease ms) = renew_tests st lease ms
own_tests st s id (ask.Cancel lease) = lease_tests st lease
own_tests st s id (ask.RenewAll leases) = []
own_tests st s id (ask.CancelAll leases) = []
own_tests st s id (ask.Txn lease) = begin_tests st lease
own_tests st s id (ask.Commit x) = commit_tests st s x
own_tests st s id (ask.Abort x) = txn_tests st x
own_tests st s id (ask.State x) = txn_tests st x
own_tests st s id (ask.Reset space) = reset_tests st space
own_tests st s id ask.Spaces = []
own_tests st s id ask.Bye = []
own_tests st s id (ask.Hello version) = []
own_tests st s id (ask.WriteAll w) = write_tests st (all_entries w)
own_tests st s id (ask.TakeMany q) = rows_tests st s id (many_rows q)
own_tests st s id (ask.Contents q) = grant_tests st q.space q.template q.lease q.txn (nat_le MOST_SETS (length st.sets))
own_tests st s id (ask.Next set most) = set_tests st s set
own_tests st s id (ask.CloseSet set) = set_tests st s set

-- the id of a request that waits is in use; only a hello takes no notice of it
abbrev pub tests : State → ℕ → ℕ → Ask → Tests
tests st s id (ask.Hello version) = []
tests st s id a = (is_waiting st s id, IdInUse) ∷ own_tests st s id a

-- why the request is refused, or nothing where it isn't
unfoldable pub refusal : State → ℕ → ℕ → Ask → Option Refusal
refusal st s id a = first_that (tests st s id a)

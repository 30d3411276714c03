-- What is said in a step, to which session.
use Rattle.std.specs.Prelude.{ℕ, ℤ, ◌+◌, Bool, true, false, if◌then◌else◌, ◌&&◌, ◌==◌, List, [], ◌∷◌, ◌++◌, map, length, filter, Option, Some, None, is_some}
use Rattle.std.specs.List.{list_any, scan, range_with_len}
use Rattle.jsp_types.specs.Tests.{first_that}
use Rattle.jsp_types.specs.declared.entry.Entry.{Entry}
use Rattle.jsp_wire.specs.declared.ask.Ask.{Ask}
use Rattle.jsp_wire.specs.declared.ask.Ask.TheVariants as ask
use Rattle.jsp_reply.specs.declared.refusal.Refusal.{Refusal}
use Rattle.jsp_reply.specs.declared.refusal.Refusal.TheVariants.{Aborted, LeftActive, CrashCount}
use Rattle.jsp_reply.specs.declared.reply.Reply.{Reply}
use Rattle.jsp_reply.specs.declared.reply.Reply.TheVariants as says
use Rattle.jsp_reply.specs.declared.reply.TxnState.TheVariants.{Active, Voting}
use Rattle.jsp_reply.specs.declared.reply.LeaseAnswer.{LeaseAnswer}
use Rattle.jsp_reply.specs.declared.reply.LeaseOutcome.{LeaseOutcome}
use Rattle.jsp_reply.specs.declared.reply.LeaseOutcome.TheVariants as outcome
use Rattle.jsp_model.specs.declared.state.State.{State}
use Rattle.jsp_model.specs.declared.state.Registration.{Registration}
use Rattle.jsp_model.specs.declared.state.Blocked.{Blocked}
use Rattle.jsp_model.specs.declared.state.Form.{Form}
use Rattle.jsp_model.specs.declared.state.Form.TheVariants as form
use Rattle.jsp_model.specs.declared.step.Step.{Step}
use Rattle.jsp_model.specs.declared.step.Step.TheVariants as step
use Rattle.jsp_lease.specs.declared.item.Rank.{Rank}
use Rattle.jsp_lease.specs.declared.item.Rank.TheVariants as rank
use Rattle.jsp_model.specs.Lookup.{named, is_open, is_caller, is_voting, blocked_of, registration_of, rows_of}
use Rattle.jsp_lease.specs.Granted.{ms_of}
use Rattle.jsp_model.specs.Refusals.{refusal, lease_tests, renew_tests}
use Rattle.jsp_model.specs.Requests.{RowRequest, one_row, many_rows, place_of, as_blocked, would_block}
use Rattle.jsp_model.specs.Changes.{renew_one, cancel_one, page_of, is_last_page}

-- what is said, and to whom
abbrev pub Saying : Type 0
Saying = ℕ × Reply

-- ---- answers to requests for rows

abbrev pub is_many : Form → Bool
is_many form.TakeMany = true
is_many _ = false

abbrev pub answer_with : Blocked → List Entry → Reply
answer_with b [] = says.Nothing b.id
answer_with b (e ∷ es) = if is_many b.form then says.Many b.id (e ∷ es) else says.Shown b.id e

-- the entries of these rows
abbrev pub entries_of : State → List ℕ → List Entry
entries_of st ns = map (λ r. r.entry) (rows_of st ns)

-- none where the request blocks
abbrev pub rows_answer : State → ℕ → ℕ → List ℕ → RowRequest → List Reply
rows_answer st s id ns q = if would_block st s id q then [] else answer_with (as_blocked st s id q) (entries_of st ns) ∷ []

-- ---- answers to batches

abbrev pub outcome_of : Option Refusal → LeaseOutcome → LeaseOutcome
outcome_of None done = done
outcome_of (Some r) done = outcome.Refused r

abbrev pub renew_answer : State → ℤ × ℤ → LeaseAnswer
renew_answer st l = record { lease = l.0; outcome = outcome_of (first_that (renew_tests st l.0 l.1)) (outcome.Renewed (ms_of l.1)) }

abbrev pub cancel_answer : State → ℤ → LeaseAnswer
cancel_answer st lease = record { lease = lease; outcome = outcome_of (first_that (lease_tests st lease)) outcome.Cancelled }

-- ---- the answer to a request that isn't refused, where it has one at once

abbrev pub answer : State → ℕ → ℕ → List ℕ → Ask → List Reply
answer st s id ns (ask.Declare d) = says.Done id ∷ []
answer st s id ns (ask.Write w) = says.Leased id st.next_number (ms_of w.lease) ∷ []
answer st s id ns (ask.Read q) = rows_answer st s id ns (one_row form.Read q)
answer st s id ns (ask.ReadIf q) = rows_answer st s id ns (one_row form.ReadIf q)
answer st s id ns (ask.Take q) = rows_answer st s id ns (one_row form.Take q)
answer st s id ns (ask.TakeIf q) = rows_answer st s id ns (one_row form.TakeIf q)
answer st s id ns (ask.Notify q) = says.Leased id st.next_number (ms_of q.lease) ∷ []
answer st s id ns (ask.Renew lease ms) = says.Leased id (named lease) (ms_of ms) ∷ []
answer st s id ns (ask.Cancel lease) = says.Done id ∷ []
answer st s id ns (ask.RenewAll leases) = says.Leases id (scan renew_one renew_answer st leases) ∷ []
answer st s id ns (ask.CancelAll leases) = says.Leases id (scan cancel_one cancel_answer st leases) ∷ []
answer st s id ns (ask.Txn lease) = says.Leased id st.next_number (ms_of lease) ∷ []
answer st s id ns (ask.Commit x) = []
answer st s id ns (ask.Abort x) = says.Done id ∷ []
answer st s id ns (ask.State x) = says.State id (if is_voting st (named x) then Voting else Active) ∷ []
answer st s id ns (ask.Reset space) = says.Done id ∷ []
answer st s id ns ask.Spaces = says.Names id (map (λ p. p.name) st.spaces) ∷ []
answer st s id ns ask.Bye = says.Done id ∷ []
answer st s id ns (ask.Hello v) = says.Done id ∷ []
answer st s id ns (ask.WriteAll w) = says.Batch id (range_with_len st.next_number (length w.entries)) (ms_of w.lease) ∷ []
answer st s id ns (ask.TakeMany q) = rows_answer st s id ns (many_rows q)
answer st s id ns (ask.Contents q) = says.Leased id st.next_number (ms_of q.lease) ∷ []
answer st s id ns (ask.Next set most) = says.Page id (is_last_page st (named set) most) (map (λ r. r.entry) (page_of st (named set) most)) ∷ []
answer st s id ns (ask.CloseSet set) = says.Done id ∷ []

-- ---- what others are told

-- these requests, in arrival order, are refused
abbrev pub refuse : Refusal → (Blocked → Bool) → State → List Saying
refuse r test st = map (λ b. (b.session, says.Refused (Some b.id) r)) (filter test st.blocked)

-- the blocked requests under transactions that are no longer active
abbrev pub refuse_under : State → List ℕ → List Saying
refuse_under st xs = refuse LeftActive (λ b. list_any (is_caller b.transaction) xs) st

-- the commit of the transaction, if it was asked, is answered
abbrev pub answer_commit : State → ℕ → (ℕ → Reply) → List Saying
answer_commit st x answer = map (λ c. (c.session, answer c.id)) (filter (λ c. c.transaction == x) st.commits)

abbrev pub aborted_reply : ℕ → Reply
aborted_reply id = says.Refused (Some id) Aborted

abbrev pub told_others : State → Ask → List Saying
told_others st (ask.Commit x) = refuse_under st (named x ∷ [])
told_others st (ask.Abort x) = answer_commit st (named x) aborted_reply ++ refuse_under st (named x ∷ [])
told_others st (ask.Cancel lease) = refuse_under st (named lease ∷ [])
told_others st (ask.CancelAll leases) = refuse_under st (map named leases)
told_others st (ask.Reset space) = refuse CrashCount (λ b. b.space == place_of st space && is_some b.transaction) st
told_others st _ = []

-- ---- what a step says

abbrev pub said_to_ask : State → ℕ → ℕ → List ℕ → Ask → Option Refusal → List Saying
said_to_ask st s id ns a (Some r) = (s, says.Refused (Some id) r) ∷ []
said_to_ask st s id ns a None = map (λ x. (s, x)) (answer st s id ns a) ++ told_others st a

abbrev pub said_to_blocked : Option Blocked → List Entry → List Saying
said_to_blocked None es = []
said_to_blocked (Some b) es = (b.session, answer_with b es) ∷ []

-- a blocked request is answered that there is nothing; a transaction aborts
abbrev pub said_when_due : State → Rank → ℕ → List Saying
said_when_due st rank.Blocked n = said_to_blocked (blocked_of st n) []
said_when_due st rank.Transaction n = refuse_under st (n ∷ [])
said_when_due st _ n = []

abbrev pub event_of : Option Registration → List Saying
event_of None = []
event_of (Some r) = (r.session, says.Told r.handback r.number (r.sequence + 1)) ∷ []

abbrev pub all_said : State → Step → List Saying
all_said st (step.Ask s asked ns) = said_to_ask st s asked.id ns asked.ask (refusal st s asked.id asked.ask)
all_said st (step.Fault s id r) = (s, says.Refused id r) ∷ []
all_said st (step.Grant n ns) = said_to_blocked (blocked_of st n) (entries_of st ns)
all_said st (step.Empty n) = said_to_blocked (blocked_of st n) []
all_said st (step.Tell n) = event_of (registration_of st n)
all_said st (step.Due item) = said_when_due st item.rank item.number
all_said st (step.Decide x commits) = answer_commit st x (λ id. if commits then says.Done id else aborted_reply id)
all_said st _ = []

-- nothing is said to a closed session
unfoldable pub said : State → Step → List Saying
said st step = filter (λ a. is_open st a.0) (all_said st step)

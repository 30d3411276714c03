-- Worked runs of transactions: what they hide, and how they are voted on and decided.
use Rattle.std.specs.Prelude.{refl, pos, negsuc, true, false, List, [], ◌∷◌, Some, codes}
use Rattle.jsp_wire.specs.declared.ask.Ask.TheVariants as ask
use Rattle.jsp_wire.specs.declared.ask.Version.TheVariants as version
use Rattle.jsp_reply.specs.declared.refusal.Refusal.TheVariants as refusals
use Rattle.jsp_reply.specs.declared.reply.Reply.TheVariants as says
use Rattle.jsp_reply.specs.declared.reply.LeaseOutcome.TheVariants as outcome
use Rattle.jsp_reply.specs.declared.reply.TxnState.TheVariants.{Active, Voting}
use Rattle.jsp_lease.specs.declared.item.Rank.TheVariants as rank
use Rattle.jsp_model.specs.declared.step.Step.TheVariants as step
use Rattle.jsp_model.specs.Quiet.{is_quiet}
use Rattle.jsp_model.specs.Due.{due}
use Rattle.jsp_model.specs.Touches.{touches}
use Rattle.jsp_model.specs.Refusals.{refusal}
use Rattle.jsp_model.specs.Answers.{said}
use Rattle.jsp_model.specs.Steps.{is_legal, next}
use Rattle.jsp_model.proofs.WorkedParts.{Line, Goes, FailsAt, instead, before, asks, gets, to, ends, job, undeclared, with_a_text_for_a_number, with_a_field_too_many, declare_job, one_job, for_job, on_jobs, all_jobs}

-- ---- a commit over two spaces

abbrev two_spaces_written : List Line
two_spaces_written =
    (step.Open 1, [])
    ∷ (asks 1 1 declare_job, to 1 (says.Done 1))
    ∷ (step.Open 2, [])
    ∷ (asks 1 2 (ask.Txn (pos 1000)), to 1 (says.Leased 2 1 1000))
    ∷ (asks 1 3 (ask.Write (record (one_job 1) { txn = Some (pos 1) })), to 1 (says.Leased 3 2 1000))
    ∷ (asks 1 4 (ask.Write (record (one_job 2) { txn = Some (pos 1); space = codes "b" })), to 1 (says.Leased 4 3 1000))
    ∷ (asks 1 5 (ask.Commit (pos 1)), [])
    ∷ (step.Vote 1 0, [])
    ∷ (asks 2 1 (ask.Read (for_job 1)), to 2 (says.Nothing 1))
    ∷ (asks 2 2 (ask.Read (record (for_job 2) { space = codes "b" })), to 2 (says.Nothing 2))
    ∷ (step.Vote 1 1, [])
    ∷ (step.Decide 1 true, to 1 (says.Done 5))
    ∷ (gets 2 3 (ask.Read (record (for_job 2) { space = codes "b" })) (3 ∷ []), to 2 (says.Shown 3 (job 2)))
    ∷ (gets 2 4 (ask.Read (for_job 1)) (2 ∷ []), to 2 (says.Shown 4 (job 1)))
    ∷ []

pub commit_changes_two_spaces_at_once : Goes two_spaces_written
unfolding refusal is_quiet due touches said is_legal next
commit_changes_two_spaces_at_once = refl

pub not_read_by_another_before_the_commit : FailsAt 5 (before 5 (gets 2 1 (ask.Read (for_job 1)) (2 ∷ [])) two_spaces_written)
unfolding refusal is_quiet due touches said is_legal next
not_read_by_another_before_the_commit = refl

pub not_read_by_another_before_the_decision : FailsAt 8 (instead 8 (gets 2 1 (ask.Read (for_job 1)) (2 ∷ [])) two_spaces_written)
unfolding refusal is_quiet due touches said is_legal next
not_read_by_another_before_the_decision = refl

pub not_voted_before_the_commit_is_asked : FailsAt 6 (before 6 (step.Vote 1 0) two_spaces_written)
unfolding refusal is_quiet due touches said is_legal next
not_voted_before_the_commit_is_asked = refl

pub not_decided_before_the_commit_is_asked : FailsAt 6 (before 6 (step.Decide 1 true) two_spaces_written)
unfolding refusal is_quiet due touches said is_legal next
not_decided_before_the_commit_is_asked = refl

pub not_decided_before_all_have_voted : FailsAt 8 (instead 8 (step.Decide 1 true) two_spaces_written)
unfolding refusal is_quiet due touches said is_legal next
not_decided_before_all_have_voted = refl

pub not_voted_twice : FailsAt 8 (instead 8 (step.Vote 1 0) two_spaces_written)
unfolding refusal is_quiet due touches said is_legal next
not_voted_twice = refl

pub not_voted_by_a_space_that_isnt_there : FailsAt 7 (instead 7 (step.Vote 1 2) two_spaces_written)
unfolding refusal is_quiet due touches said is_legal next
not_voted_by_a_space_that_isnt_there = refl

pub not_aborted_when_all_are_prepared : FailsAt 11 (instead 11 (step.Decide 1 false) two_spaces_written)
unfolding refusal is_quiet due touches said is_legal next
not_aborted_when_all_are_prepared = refl

pub not_decided_twice : FailsAt 12 (before 12 (step.Decide 1 true) two_spaces_written)
unfolding refusal is_quiet due touches said is_legal next
not_decided_twice = refl

pub not_null_after_the_decision : FailsAt 13 (instead 13 (asks 2 4 (ask.Read (for_job 1))) two_spaces_written)
unfolding refusal is_quiet due touches said is_legal next
not_null_after_the_decision = refl

abbrev session_closes_while_voting : List Line
session_closes_while_voting =
    (step.Open 1, [])
    ∷ (asks 1 1 declare_job, to 1 (says.Done 1))
    ∷ (step.Open 2, [])
    ∷ (asks 1 2 (ask.Txn (pos 1000)), to 1 (says.Leased 2 1 1000))
    ∷ (asks 1 3 (ask.Write (record (one_job 1) { txn = Some (pos 1) })), to 1 (says.Leased 3 2 1000))
    ∷ (asks 1 4 (ask.Write (record (one_job 2) { txn = Some (pos 1); space = codes "b" })), to 1 (says.Leased 4 3 1000))
    ∷ (asks 1 5 (ask.Commit (pos 1)), [])
    ∷ (step.Shut 1, [])
    ∷ (step.Vote 1 0, [])
    ∷ (step.Vote 1 1, [])
    ∷ (step.Decide 1 true, [])
    ∷ (gets 2 1 (ask.Read (record (for_job 2) { space = codes "b" })) (3 ∷ []), to 2 (says.Shown 1 (job 2)))
    ∷ (gets 2 2 (ask.Read (for_job 1)) (2 ∷ []), to 2 (says.Shown 2 (job 1)))
    ∷ []

pub commit_goes_on_after_its_session_closes : Goes session_closes_while_voting
unfolding refusal is_quiet due touches said is_legal next
commit_goes_on_after_its_session_closes = refl

pub not_asked_by_the_session_that_closed : FailsAt 8 (instead 8 (asks 1 6 (ask.State (pos 1))) session_closes_while_voting)
unfolding refusal is_quiet due touches said is_legal next
not_asked_by_the_session_that_closed = refl

pub not_handed_out_to_the_session_that_closed : FailsAt 11 (before 11 (step.HandOut 1 5) session_closes_while_voting)
unfolding refusal is_quiet due touches said is_legal next
not_handed_out_to_the_session_that_closed = refl

abbrev one_space_joined : List Line
one_space_joined =
    (step.Open 1, [])
    ∷ (asks 1 1 declare_job, to 1 (says.Done 1))
    ∷ (asks 1 2 (ask.Txn (pos 1000)), to 1 (says.Leased 2 1 1000))
    ∷ (asks 1 3 (ask.Read (record (for_job 1) { txn = Some (pos 1) })), to 1 (says.Nothing 3))
    ∷ (asks 1 4 (ask.Read (record (for_job 1) { template = Some undeclared; space = codes "b"; txn = Some (pos 1) })), to 1 (says.Refused (Some 4) refusals.UnknownClass))
    ∷ (asks 1 5 (ask.Commit (pos 1)), [])
    ∷ (step.Vote 1 0, [])
    ∷ (step.Decide 1 true, to 1 (says.Done 5))
    ∷ []

pub space_joins_by_what_is_not_refused_and_votes : Goes one_space_joined
unfolding refusal is_quiet due touches said is_legal next
space_joins_by_what_is_not_refused_and_votes = refl

pub not_voted_by_a_space_that_hasnt_joined : FailsAt 6 (before 6 (step.Vote 1 1) one_space_joined)
unfolding refusal is_quiet due touches said is_legal next
not_voted_by_a_space_that_hasnt_joined = refl

pub not_without_the_vote_of_one_that_only_looked : FailsAt 6 (instead 6 (step.Decide 1 true) one_space_joined)
unfolding refusal is_quiet due touches said is_legal next
not_without_the_vote_of_one_that_only_looked = refl

abbrev no_space_joined : List Line
no_space_joined =
    (step.Open 1, [])
    ∷ (asks 1 1 (ask.Txn (pos 1000)), to 1 (says.Leased 1 1 1000))
    ∷ (asks 1 2 (ask.Commit (pos 1)), [])
    ∷ (step.Decide 1 true, to 1 (says.Done 2))
    ∷ []

pub commit_of_nothing_is_decided_without_a_vote : Goes no_space_joined
unfolding refusal is_quiet due touches said is_legal next
commit_of_nothing_is_decided_without_a_vote = refl

pub not_voted_where_nothing_was_done : FailsAt 3 (instead 3 (step.Vote 1 0) no_space_joined)
unfolding refusal is_quiet due touches said is_legal next
not_voted_where_nothing_was_done = refl

pub not_aborted_without_a_vote : FailsAt 3 (instead 3 (step.Decide 1 false) no_space_joined)
unfolding refusal is_quiet due touches said is_legal next
not_aborted_without_a_vote = refl

abbrev written_and_taken : List Line
written_and_taken =
    (step.Open 1, [])
    ∷ (asks 1 1 declare_job, to 1 (says.Done 1))
    ∷ (asks 1 2 (ask.Txn (pos 1000)), to 1 (says.Leased 2 1 1000))
    ∷ (asks 1 3 (ask.Write (record (one_job 1) { txn = Some (pos 1) })), to 1 (says.Leased 3 2 1000))
    ∷ (gets 1 4 (ask.Take (record (for_job 1) { txn = Some (pos 1) })) (2 ∷ []), to 1 (says.Shown 4 (job 1)))
    ∷ (asks 1 5 (ask.Commit (pos 1)), [])
    ∷ (step.Vote 1 0, [])
    ∷ (step.Decide 1 true, to 1 (says.Done 5))
    ∷ (asks 1 6 (ask.Cancel (pos 2)), to 1 (says.Refused (Some 6) refusals.UnknownLease))
    ∷ []

pub entry_written_and_taken_under_one_transaction_is_never_published : Goes written_and_taken
unfolding refusal is_quiet due touches said is_legal next
entry_written_and_taken_under_one_transaction_is_never_published = refl

pub not_read_once_taken_under_the_same_transaction : FailsAt 5 (before 5 (gets 1 9 (ask.Read (record (for_job 1) { txn = Some (pos 1) })) (2 ∷ [])) written_and_taken)
unfolding refusal is_quiet due touches said is_legal next
not_read_once_taken_under_the_same_transaction = refl

pub not_published_once_taken : FailsAt 8 (before 8 (gets 1 9 (ask.Read (for_job 1)) (2 ∷ [])) written_and_taken)
unfolding refusal is_quiet due touches said is_legal next
not_published_once_taken = refl

abbrev committed_entry_ends : List Line
committed_entry_ends =
    (step.Open 1, [])
    ∷ (asks 1 1 declare_job, to 1 (says.Done 1))
    ∷ (asks 1 2 (ask.Txn (pos 1000)), to 1 (says.Leased 2 1 1000))
    ∷ (asks 1 3 (ask.Write (record (one_job 1) { txn = Some (pos 1) })), to 1 (says.Leased 3 2 1000))
    ∷ (asks 1 4 (ask.Commit (pos 1)), [])
    ∷ (step.Vote 1 0, [])
    ∷ (step.Decide 1 true, to 1 (says.Done 4))
    ∷ (gets 1 5 (ask.Read (for_job 1)) (2 ∷ []), to 1 (says.Shown 5 (job 1)))
    ∷ (step.Clock 1000, [])
    ∷ (ends rank.Entry 2 1000, [])
    ∷ (asks 1 6 ask.Spaces, to 1 (says.Names 6 (codes "a" ∷ codes "b" ∷ [])))
    ∷ (asks 1 7 (ask.Read (for_job 1)), to 1 (says.Nothing 7))
    ∷ []

pub committed_entry_lives_until_its_lease_ends : Goes committed_entry_ends
unfolding refusal is_quiet due touches said is_legal next
committed_entry_lives_until_its_lease_ends = refl

pub not_ended_as_an_ended_transaction : FailsAt 9 (instead 9 (ends rank.Transaction 1 1000) committed_entry_ends)
unfolding refusal is_quiet due touches said is_legal next
not_ended_as_an_ended_transaction = refl

pub not_asked_while_a_committed_entry_is_due : FailsAt 9 (instead 9 (asks 1 6 ask.Spaces) committed_entry_ends)
unfolding refusal is_quiet due touches said is_legal next
not_asked_while_a_committed_entry_is_due = refl

-- ---- a reset between the votes

abbrev reset_while_voting : List Line
reset_while_voting =
    (step.Open 1, [])
    ∷ (asks 1 1 declare_job, to 1 (says.Done 1))
    ∷ (step.Open 2, [])
    ∷ (asks 1 2 (ask.Txn (pos 1000)), to 1 (says.Leased 2 1 1000))
    ∷ (asks 1 3 (ask.Write (record (one_job 1) { txn = Some (pos 1) })), to 1 (says.Leased 3 2 1000))
    ∷ (asks 1 4 (ask.Write (record (one_job 2) { txn = Some (pos 1); space = codes "b" })), to 1 (says.Leased 4 3 1000))
    ∷ (asks 1 5 (ask.Commit (pos 1)), [])
    ∷ (step.Vote 1 0, [])
    ∷ (asks 2 1 (ask.Reset (codes "a")), to 2 (says.Refused (Some 1) refusals.InDoubt))
    ∷ (asks 2 2 (ask.Reset (codes "b")), to 2 (says.Done 2))
    ∷ (step.Vote 1 1, [])
    ∷ (step.Decide 1 false, to 1 (says.Refused (Some 5) refusals.Aborted))
    ∷ (asks 2 3 (ask.Read (for_job 1)), to 2 (says.Nothing 3))
    ∷ (asks 2 4 (ask.Read (record (for_job 2) { space = codes "b" })), to 2 (says.Nothing 4))
    ∷ []

pub prepared_space_isnt_reset_and_a_reset_one_aborts : Goes reset_while_voting
unfolding refusal is_quiet due touches said is_legal next
prepared_space_isnt_reset_and_a_reset_one_aborts = refl

pub not_aborted_before_a_vote_to_abort : FailsAt 10 (instead 10 (step.Decide 1 false) reset_while_voting)
unfolding refusal is_quiet due touches said is_legal next
not_aborted_before_a_vote_to_abort = refl

pub not_committed_after_a_vote_to_abort : FailsAt 11 (instead 11 (step.Decide 1 true) reset_while_voting)
unfolding refusal is_quiet due touches said is_legal next
not_committed_after_a_vote_to_abort = refl

pub not_published_by_an_abort : FailsAt 12 (instead 12 (gets 2 3 (ask.Read (for_job 1)) (2 ∷ [])) reset_while_voting)
unfolding refusal is_quiet due touches said is_legal next
not_published_by_an_abort = refl

pub not_kept_by_a_reset : FailsAt 13 (instead 13 (gets 2 4 (ask.Read (record (for_job 2) { space = codes "b" })) (3 ∷ [])) reset_while_voting)
unfolding refusal is_quiet due touches said is_legal next
not_kept_by_a_reset = refl

abbrev reset_after_joining : List Line
reset_after_joining =
    (step.Open 1, [])
    ∷ (asks 1 1 declare_job, to 1 (says.Done 1))
    ∷ (step.Open 2, [])
    ∷ (asks 1 2 (ask.Txn (pos 1000)), to 1 (says.Leased 2 1 1000))
    ∷ (asks 1 3 (ask.Take (record (for_job 1) { timeout = pos 1000; txn = Some (pos 1) })), [])
    ∷ (asks 2 1 (ask.Reset (codes "a")), (2, says.Done 1) ∷ (1, says.Refused (Some 3) refusals.CrashCount) ∷ [])
    ∷ (asks 1 4 (ask.Read (record (for_job 1) { txn = Some (pos 1) })), to 1 (says.Refused (Some 4) refusals.CrashCount))
    ∷ (asks 1 5 (ask.Commit (pos 1)), [])
    ∷ (step.Vote 1 0, [])
    ∷ (step.Decide 1 false, to 1 (says.Refused (Some 5) refusals.Aborted))
    ∷ []

pub reset_refuses_requests_under_transactions : Goes reset_after_joining
unfolding refusal is_quiet due touches said is_legal next
reset_refuses_requests_under_transactions = refl

pub not_committed_after_a_reset : FailsAt 9 (instead 9 (step.Decide 1 true) reset_after_joining)
unfolding refusal is_quiet due touches said is_legal next
not_committed_after_a_reset = refl

pub not_aborted_before_the_vote_of_a_space_that_was_reset : FailsAt 8 (instead 8 (step.Decide 1 false) reset_after_joining)
unfolding refusal is_quiet due touches said is_legal next
not_aborted_before_the_vote_of_a_space_that_was_reset = refl

abbrev reset : List Line
reset =
    (step.Open 1, [])
    ∷ (asks 1 0 (ask.Hello version.Two), to 1 (says.Done 0))
    ∷ (asks 1 1 declare_job, to 1 (says.Done 1))
    ∷ (asks 1 2 (ask.Write (one_job 1)), to 1 (says.Leased 2 1 1000))
    ∷ (asks 1 3 (ask.Write (record (one_job 2) { space = codes "b" })), to 1 (says.Leased 3 2 1000))
    ∷ (asks 1 4 (ask.Notify (on_jobs (codes "h"))), to 1 (says.Leased 4 3 5000))
    ∷ (asks 1 5 (ask.Contents all_jobs), to 1 (says.Leased 5 4 1000))
    ∷ (asks 1 6 (ask.Take (record (for_job 5) { timeout = pos 1000 })), [])
    ∷ (asks 1 7 (ask.Reset (codes "a")), to 1 (says.Done 7))
    ∷ (asks 1 8 (ask.Reset (codes "c")), to 1 (says.Refused (Some 8) refusals.UnknownSpace))
    ∷ (asks 1 9 (ask.Read (for_job 1)), to 1 (says.Nothing 9))
    ∷ (gets 1 10 (ask.Read (record (for_job 2) { space = codes "b" })) (2 ∷ []), to 1 (says.Shown 10 (job 2)))
    ∷ (asks 1 11 (ask.Cancel (pos 3)), to 1 (says.Refused (Some 11) refusals.UnknownLease))
    ∷ (asks 1 12 (ask.Next (pos 4) 1), to 1 (says.Refused (Some 12) refusals.UnknownLease))
    ∷ (asks 1 13 (ask.Write (one_job 5)), to 1 (says.Leased 13 6 1000))
    ∷ (step.Grant 5 (6 ∷ []), to 1 (says.Shown 6 (job 5)))
    ∷ []

pub reset_empties_one_space_and_leaves_what_waits_under_no_transaction : Goes reset
unfolding refusal is_quiet due touches said is_legal next
reset_empties_one_space_and_leaves_what_waits_under_no_transaction = refl

pub not_read_after_a_reset : FailsAt 10 (instead 10 (gets 1 9 (ask.Read (for_job 1)) (1 ∷ [])) reset)
unfolding refusal is_quiet due touches said is_legal next
not_read_after_a_reset = refl

pub not_told_after_a_reset : FailsAt 15 (before 15 (step.Tell 3) reset)
unfolding refusal is_quiet due touches said is_legal next
not_told_after_a_reset = refl

pub not_dropped_by_a_reset : FailsAt 15 (instead 15 (asks 1 14 (ask.Read (for_job 5))) reset)
unfolding refusal is_quiet due touches said is_legal next
not_dropped_by_a_reset = refl

-- ---- what is refused while the transaction votes

abbrev waits_at_the_commit : List Line
waits_at_the_commit =
    (step.Open 1, [])
    ∷ (asks 1 1 declare_job, to 1 (says.Done 1))
    ∷ (asks 1 2 (ask.Txn (pos 1000)), to 1 (says.Leased 2 1 1000))
    ∷ (asks 1 3 (ask.Take (record (for_job 1) { timeout = pos 1000; txn = Some (pos 1) })), [])
    ∷ (asks 1 4 (ask.Commit (pos 1)), to 1 (says.Refused (Some 3) refusals.LeftActive))
    ∷ (asks 1 6 (ask.State (pos 1)), to 1 (says.State 6 Voting))
    ∷ (step.Vote 1 0, [])
    ∷ (step.Decide 1 true, to 1 (says.Done 4))
    ∷ (asks 1 5 (ask.State (pos 1)), to 1 (says.Refused (Some 5) refusals.UnknownTransaction))
    ∷ []

pub commit_refuses_its_waiting_requests : Goes waits_at_the_commit
unfolding refusal is_quiet due touches said is_legal next
commit_refuses_its_waiting_requests = refl

pub not_decided_before_the_vote_of_a_space_that_waited : FailsAt 6 (instead 6 (step.Decide 1 true) waits_at_the_commit)
unfolding refusal is_quiet due touches said is_legal next
not_decided_before_the_vote_of_a_space_that_waited = refl

abbrev asked_while_voting : List Line
asked_while_voting =
    (step.Open 1, [])
    ∷ (asks 1 1 declare_job, to 1 (says.Done 1))
    ∷ (asks 1 2 (ask.Txn (pos 100)), to 1 (says.Leased 2 1 100))
    ∷ (asks 1 3 (ask.State (pos 1)), to 1 (says.State 3 Active))
    ∷ (asks 1 4 (ask.Write (record (one_job 1) { txn = Some (pos 1) })), to 1 (says.Leased 4 2 1000))
    ∷ (asks 1 5 (ask.Commit (pos 1)), [])
    ∷ (asks 1 5 ask.Spaces, to 1 (says.Refused (Some 5) refusals.IdInUse))
    ∷ (asks 1 6 (ask.Write (record (one_job 2) { txn = Some (pos 1) })), to 1 (says.Refused (Some 6) refusals.NotActive))
    ∷ (asks 1 7 (ask.Read (record (for_job 1) { txn = Some (pos 1) })), to 1 (says.Refused (Some 7) refusals.NotActive))
    ∷ (asks 1 8 (ask.TakeIf (record (for_job 1) { txn = Some (pos 1); timeout = pos 10 })), to 1 (says.Refused (Some 8) refusals.NotActive))
    ∷ (asks 1 9 (ask.Notify (record (on_jobs (codes "h")) { txn = Some (pos 1) })), to 1 (says.Refused (Some 9) refusals.NotActive))
    ∷ (asks 1 10 (ask.Commit (pos 1)), to 1 (says.Refused (Some 10) refusals.NotActive))
    ∷ (asks 1 11 (ask.Renew (pos 1) (pos 5)), to 1 (says.Refused (Some 11) refusals.NotActive))
    ∷ (asks 1 12 (ask.Cancel (pos 1)), to 1 (says.Refused (Some 12) refusals.NotActive))
    ∷ (asks 1 13 (ask.RenewAll ((pos 1, pos 5) ∷ (pos 2, pos 2000) ∷ [])), to 1 (says.Leases 13 (record { lease = pos 1; outcome = outcome.Refused refusals.NotActive } ∷ record { lease = pos 2; outcome = outcome.Renewed 2000 } ∷ [])))
    ∷ (asks 1 14 (ask.CancelAll (pos 1 ∷ [])), to 1 (says.Leases 14 (record { lease = pos 1; outcome = outcome.Refused refusals.NotActive } ∷ [])))
    ∷ (step.Clock 100, [])
    ∷ (asks 1 15 (ask.State (pos 1)), to 1 (says.State 15 Voting))
    ∷ (step.Vote 1 0, [])
    ∷ (step.Decide 1 true, to 1 (says.Done 5))
    ∷ (gets 1 16 (ask.Take (for_job 1)) (2 ∷ []), to 1 (says.Shown 16 (job 1)))
    ∷ []

pub voting_transaction_takes_no_more : Goes asked_while_voting
unfolding refusal is_quiet due touches said is_legal next
voting_transaction_takes_no_more = refl

pub not_ended_by_its_lease_while_voting : FailsAt 17 (before 17 (ends rank.Transaction 1 100) asked_while_voting)
unfolding refusal is_quiet due touches said is_legal next
not_ended_by_its_lease_while_voting = refl

pub not_given_under_a_voting_transaction : FailsAt 8 (instead 8 (gets 1 7 (ask.Read (record (for_job 1) { txn = Some (pos 1) })) (2 ∷ [])) asked_while_voting)
unfolding refusal is_quiet due touches said is_legal next
not_given_under_a_voting_transaction = refl

pub not_aborted_by_a_refused_cancel : FailsAt 14 (before 14 (step.Decide 1 false) asked_while_voting)
unfolding refusal is_quiet due touches said is_legal next
not_aborted_by_a_refused_cancel = refl

abbrev nothing_of_this_number : List Line
nothing_of_this_number =
    (step.Open 1, [])
    ∷ (asks 1 1 declare_job, to 1 (says.Done 1))
    ∷ (asks 1 2 (ask.Write (one_job 1)), to 1 (says.Leased 2 1 1000))
    ∷ (asks 1 3 (ask.Read (record (for_job 1) { txn = Some (pos 1) })), to 1 (says.Refused (Some 3) refusals.UnknownTransaction))
    ∷ (asks 1 4 (ask.Write (record (one_job 1) { txn = Some (pos 9) })), to 1 (says.Refused (Some 4) refusals.UnknownTransaction))
    ∷ (asks 1 5 (ask.Commit (pos 9)), to 1 (says.Refused (Some 5) refusals.UnknownTransaction))
    ∷ (asks 1 6 (ask.Abort (pos 1)), to 1 (says.Refused (Some 6) refusals.UnknownTransaction))
    ∷ (asks 1 7 (ask.State (pos 0)), to 1 (says.Refused (Some 7) refusals.UnknownTransaction))
    ∷ (asks 1 8 (ask.Notify (record (on_jobs (codes "h")) { txn = Some (negsuc 0) })), to 1 (says.Refused (Some 8) refusals.UnknownTransaction))
    ∷ []

pub unknown_transactions_are_refused : Goes nothing_of_this_number
unfolding refusal is_quiet due touches said is_legal next
unknown_transactions_are_refused = refl

pub not_given_under_no_living_transaction : FailsAt 3 (instead 3 (gets 1 3 (ask.Read (record (for_job 1) { txn = Some (pos 1) })) (1 ∷ [])) nothing_of_this_number)
unfolding refusal is_quiet due touches said is_legal next
not_given_under_no_living_transaction = refl

pub not_decided_without_a_transaction : FailsAt 6 (before 6 (step.Decide 9 true) nothing_of_this_number)
unfolding refusal is_quiet due touches said is_legal next
not_decided_without_a_transaction = refl

pub not_voted_without_a_transaction : FailsAt 6 (before 6 (step.Vote 9 0) nothing_of_this_number)
unfolding refusal is_quiet due touches said is_legal next
not_voted_without_a_transaction = refl

abbrev refused_in_order : List Line
refused_in_order =
    (step.Open 1, [])
    ∷ (asks 1 1 declare_job, to 1 (says.Done 1))
    ∷ (asks 1 2 (ask.Txn (pos 1000)), to 1 (says.Leased 2 1 1000))
    ∷ (asks 1 3 (ask.Read (record (for_job 1) { txn = Some (pos 1) })), to 1 (says.Nothing 3))
    ∷ (asks 1 4 (ask.Take (record (for_job 1) { timeout = pos 1000 })), [])
    ∷ (asks 1 4 (ask.Write (record (one_job 1) { entry = undeclared; space = codes "c"; lease = negsuc 1; txn = Some (pos 9) })), to 1 (says.Refused (Some 4) refusals.IdInUse))
    ∷ (asks 1 5 (ask.Write (record (one_job 1) { entry = undeclared; space = codes "c"; lease = negsuc 1; txn = Some (pos 9) })), to 1 (says.Refused (Some 5) refusals.UnknownSpace))
    ∷ (asks 1 6 (ask.Write (record (one_job 1) { entry = undeclared; lease = negsuc 1; txn = Some (pos 9) })), to 1 (says.Refused (Some 6) refusals.UnknownTransaction))
    ∷ (asks 1 7 (ask.Reset (codes "a")), to 1 (says.Done 7))
    ∷ (asks 1 8 (ask.Write (record (one_job 1) { entry = undeclared; lease = negsuc 1; txn = Some (pos 1) })), to 1 (says.Refused (Some 8) refusals.CrashCount))
    ∷ (asks 1 9 (ask.Write (record (one_job 1) { entry = undeclared; lease = negsuc 1 })), to 1 (says.Refused (Some 9) refusals.UnknownClass))
    ∷ (asks 1 10 (ask.Write (record (one_job 1) { entry = with_a_field_too_many; lease = negsuc 1 })), to 1 (says.Refused (Some 10) refusals.BadEntry))
    ∷ (asks 1 11 (ask.Write (record (one_job 1) { lease = negsuc 1 })), to 1 (says.Refused (Some 11) refusals.BadLease))
    ∷ (asks 1 12 (ask.Read (record (for_job 1) { template = Some undeclared; timeout = negsuc 0 })), to 1 (says.Refused (Some 12) refusals.UnknownClass))
    ∷ (asks 1 13 (ask.Read (record (for_job 1) { template = Some with_a_text_for_a_number; timeout = negsuc 0 })), to 1 (says.Refused (Some 13) refusals.BadEntry))
    ∷ (asks 1 14 (ask.Renew (pos 9) (negsuc 1)), to 1 (says.Refused (Some 14) refusals.UnknownLease))
    ∷ (asks 1 15 (ask.Renew (pos 1) (negsuc 1)), to 1 (says.Refused (Some 15) refusals.BadLease))
    ∷ (asks 1 16 (ask.Commit (pos 1)), [])
    ∷ (asks 1 16 (ask.Renew (pos 9) (negsuc 1)), to 1 (says.Refused (Some 16) refusals.IdInUse))
    ∷ (asks 1 17 (ask.Renew (pos 1) (negsuc 1)), to 1 (says.Refused (Some 17) refusals.NotActive))
    ∷ (asks 1 18 (ask.Write (record (one_job 1) { entry = undeclared; lease = negsuc 1; txn = Some (pos 1) })), to 1 (says.Refused (Some 18) refusals.NotActive))
    ∷ (asks 1 19 (ask.Write (record (one_job 1) { entry = undeclared; lease = negsuc 1; txn = Some (pos 1); space = codes "c" })), to 1 (says.Refused (Some 19) refusals.UnknownSpace))
    ∷ []

pub first_refusal_that_applies_is_given : Goes refused_in_order
unfolding refusal is_quiet due touches said is_legal next
first_refusal_that_applies_is_given = refl

pub not_granted_what_was_refused : FailsAt 13 (before 13 (step.Grant 2 (3 ∷ [])) refused_in_order)
unfolding refusal is_quiet due touches said is_legal next
not_granted_what_was_refused = refl

-- ---- two transactions

abbrev two_readers : List Line
two_readers =
    (step.Open 1, [])
    ∷ (step.Open 2, [])
    ∷ (asks 1 1 declare_job, to 1 (says.Done 1))
    ∷ (asks 1 2 (ask.Write (one_job 1)), to 1 (says.Leased 2 1 1000))
    ∷ (asks 1 3 (ask.Txn (pos 1000)), to 1 (says.Leased 3 2 1000))
    ∷ (asks 2 1 (ask.Txn (pos 1000)), to 2 (says.Leased 1 3 1000))
    ∷ (gets 1 4 (ask.Read (record (for_job 1) { txn = Some (pos 2) })) (1 ∷ []), to 1 (says.Shown 4 (job 1)))
    ∷ (gets 2 2 (ask.Read (record (for_job 1) { txn = Some (pos 3) })) (1 ∷ []), to 2 (says.Shown 2 (job 1)))
    ∷ (asks 1 5 (ask.Take (record (for_job 1) { txn = Some (pos 2) })), to 1 (says.Nothing 5))
    ∷ (asks 2 3 (ask.Take (record (for_job 1) { txn = Some (pos 3); timeout = pos 1000 })), [])
    ∷ (asks 1 6 (ask.Abort (pos 2)), to 1 (says.Done 6))
    ∷ (step.Grant 4 (1 ∷ []), to 2 (says.Shown 3 (job 1)))
    ∷ []

pub entry_read_under_two_transactions_is_taken_under_neither : Goes two_readers
unfolding refusal is_quiet due touches said is_legal next
entry_read_under_two_transactions_is_taken_under_neither = refl

pub not_taken_while_another_transaction_has_read_it : FailsAt 8 (instead 8 (gets 1 5 (ask.Take (record (for_job 1) { txn = Some (pos 2) })) (1 ∷ [])) two_readers)
unfolding refusal is_quiet due touches said is_legal next
not_taken_while_another_transaction_has_read_it = refl

pub not_granted_while_another_transaction_has_read_it : FailsAt 10 (before 10 (step.Grant 4 (1 ∷ [])) two_readers)
unfolding refusal is_quiet due touches said is_legal next
not_granted_while_another_transaction_has_read_it = refl

abbrev read_mark_released : List Line
read_mark_released =
    (step.Open 1, [])
    ∷ (step.Open 2, [])
    ∷ (asks 1 1 declare_job, to 1 (says.Done 1))
    ∷ (asks 1 2 (ask.Write (record (one_job 1) { space = codes "b" })), to 1 (says.Leased 2 1 1000))
    ∷ (asks 1 3 (ask.Txn (pos 1000)), to 1 (says.Leased 3 2 1000))
    ∷ (asks 1 4 (ask.Write (record (one_job 2) { txn = Some (pos 2) })), to 1 (says.Leased 4 3 1000))
    ∷ (gets 1 5 (ask.Read (record (for_job 1) { space = codes "b"; txn = Some (pos 2) })) (1 ∷ []), to 1 (says.Shown 5 (job 1)))
    ∷ (asks 2 1 (ask.Take (record (for_job 1) { space = codes "b"; timeout = pos 1000 })), [])
    ∷ (asks 1 6 (ask.Commit (pos 2)), [])
    ∷ (step.Vote 2 0, [])
    ∷ (step.Vote 2 1, [])
    ∷ (step.Grant 4 (1 ∷ []), to 2 (says.Shown 1 (job 1)))
    ∷ (step.Decide 2 true, to 1 (says.Done 6))
    ∷ []

pub space_where_nothing_changed_gives_up_its_read_marks_at_its_vote : Goes read_mark_released
unfolding refusal is_quiet due touches said is_legal next
space_where_nothing_changed_gives_up_its_read_marks_at_its_vote = refl

pub not_granted_before_the_vote : FailsAt 10 (before 10 (step.Grant 4 (1 ∷ [])) read_mark_released)
unfolding refusal is_quiet due touches said is_legal next
not_granted_before_the_vote = refl

abbrev read_mark_kept : List Line
read_mark_kept =
    (step.Open 1, [])
    ∷ (step.Open 2, [])
    ∷ (asks 1 1 declare_job, to 1 (says.Done 1))
    ∷ (asks 1 2 (ask.Write (one_job 1)), to 1 (says.Leased 2 1 1000))
    ∷ (asks 1 3 (ask.Txn (pos 1000)), to 1 (says.Leased 3 2 1000))
    ∷ (asks 1 4 (ask.Write (record (one_job 2) { txn = Some (pos 2) })), to 1 (says.Leased 4 3 1000))
    ∷ (gets 1 5 (ask.Read (record (for_job 1) { txn = Some (pos 2) })) (1 ∷ []), to 1 (says.Shown 5 (job 1)))
    ∷ (asks 2 1 (ask.Take (record (for_job 1) { timeout = pos 1000 })), [])
    ∷ (asks 1 6 (ask.Commit (pos 2)), [])
    ∷ (step.Vote 2 0, [])
    ∷ (step.Decide 2 true, to 1 (says.Done 6))
    ∷ (step.Grant 4 (1 ∷ []), to 2 (says.Shown 1 (job 1)))
    ∷ []

pub prepared_space_keeps_its_read_marks_until_the_decision : Goes read_mark_kept
unfolding refusal is_quiet due touches said is_legal next
prepared_space_keeps_its_read_marks_until_the_decision = refl

pub not_granted_by_the_vote_of_a_prepared_space : FailsAt 10 (before 10 (step.Grant 4 (1 ∷ [])) read_mark_kept)
unfolding refusal is_quiet due touches said is_legal next
not_granted_by_the_vote_of_a_prepared_space = refl

pub not_asked_while_a_request_can_be_granted : FailsAt 11 (instead 11 (asks 2 2 (ask.Read (for_job 1))) read_mark_kept)
unfolding refusal is_quiet due touches said is_legal next
not_asked_while_a_request_can_be_granted = refl

-- Worked runs of transactions that end without a decision: by an abort, by a cancel of their lease, or by its end.
use Rattle.std.specs.Prelude.{refl, pos, true, List, [], ◌∷◌, Some, codes}
use Rattle.jsp_wire.specs.declared.ask.Ask.TheVariants as ask
use Rattle.jsp_reply.specs.declared.refusal.Refusal.TheVariants as refusals
use Rattle.jsp_reply.specs.declared.reply.Reply.TheVariants as says
use Rattle.jsp_reply.specs.declared.reply.LeaseOutcome.TheVariants as outcome
use Rattle.jsp_lease.specs.declared.item.Rank.TheVariants as rank
use Rattle.jsp_model.specs.declared.step.Step.TheVariants as step
use Rattle.jsp_model.specs.Quiet.{is_quiet}
use Rattle.jsp_model.specs.Due.{due}
use Rattle.jsp_model.specs.Touches.{touches}
use Rattle.jsp_model.specs.Refusals.{refusal}
use Rattle.jsp_model.specs.Answers.{said}
use Rattle.jsp_model.specs.Steps.{is_legal, next}
use Rattle.jsp_model.proofs.WorkedParts.{Line, Goes, FailsAt, instead, before, without, asks, gets, to, ends, job, declare_job, one_job, for_job}

-- ---- an abort

abbrev aborted_while_voting : List Line
aborted_while_voting =
    (step.Open 1, [])
    ∷ (asks 1 1 declare_job, to 1 (says.Done 1))
    ∷ (step.Open 2, [])
    ∷ (asks 1 2 (ask.Txn (pos 1000)), to 1 (says.Leased 2 1 1000))
    ∷ (asks 1 3 (ask.Write (record (one_job 1) { txn = Some (pos 1) })), to 1 (says.Leased 3 2 1000))
    ∷ (asks 1 4 (ask.Write (record (one_job 2) { txn = Some (pos 1); space = codes "b" })), to 1 (says.Leased 4 3 1000))
    ∷ (asks 1 5 (ask.Commit (pos 1)), [])
    ∷ (asks 1 6 (ask.Abort (pos 1)), (1, says.Done 6) ∷ (1, says.Refused (Some 5) refusals.Aborted) ∷ [])
    ∷ []

pub abort_refuses_the_commit : Goes aborted_while_voting
unfolding refusal is_quiet due touches said is_legal next
abort_refuses_the_commit = refl

pub not_committed_once_aborted : FailsAt 8 (before 8 (step.Decide 1 true) aborted_while_voting)
unfolding refusal is_quiet due touches said is_legal next
not_committed_once_aborted = refl

pub not_voted_once_aborted : FailsAt 8 (before 8 (step.Vote 1 0) aborted_while_voting)
unfolding refusal is_quiet due touches said is_legal next
not_voted_once_aborted = refl

abbrev aborted_while_active : List Line
aborted_while_active =
    (step.Open 1, [])
    ∷ (step.Open 2, [])
    ∷ (asks 1 1 declare_job, to 1 (says.Done 1))
    ∷ (asks 1 2 (ask.Write (one_job 1)), to 1 (says.Leased 2 1 1000))
    ∷ (asks 1 3 (ask.Txn (pos 1000)), to 1 (says.Leased 3 2 1000))
    ∷ (asks 2 1 (ask.Take (record (for_job 5) { txn = Some (pos 2); timeout = pos 1000 })), [])
    ∷ (asks 1 4 (ask.Read (record (for_job 6) { txn = Some (pos 2); timeout = pos 1000; space = codes "b" })), [])
    ∷ (asks 1 5 (ask.Take (record (for_job 5) { timeout = pos 1000 })), [])
    ∷ (gets 1 6 (ask.Take (record (for_job 1) { txn = Some (pos 2) })) (1 ∷ []), to 1 (says.Shown 6 (job 1)))
    ∷ (asks 1 7 (ask.Write (record (one_job 2) { txn = Some (pos 2) })), to 1 (says.Leased 7 6 1000))
    ∷ (asks 2 2 (ask.Abort (pos 2)), (2, says.Done 2) ∷ (2, says.Refused (Some 1) refusals.LeftActive) ∷ (1, says.Refused (Some 4) refusals.LeftActive) ∷ [])
    ∷ (gets 1 8 (ask.Take (for_job 1)) (1 ∷ []), to 1 (says.Shown 8 (job 1)))
    ∷ (asks 1 9 (ask.Cancel (pos 6)), to 1 (says.Refused (Some 9) refusals.UnknownLease))
    ∷ []

pub abort_answers_first_and_then_refuses_in_order_of_arrival : Goes aborted_while_active
unfolding refusal is_quiet due touches said is_legal next
abort_answers_first_and_then_refuses_in_order_of_arrival = refl

pub not_kept_from_others_by_an_abort : FailsAt 11 (instead 11 (asks 1 8 (ask.Take (for_job 1))) aborted_while_active)
unfolding refusal is_quiet due touches said is_legal next
not_kept_from_others_by_an_abort = refl

pub not_kept_by_an_abort : FailsAt 11 (before 11 (gets 2 3 (ask.Read (for_job 2)) (6 ∷ [])) aborted_while_active)
unfolding refusal is_quiet due touches said is_legal next
not_kept_by_an_abort = refl

abbrev lease_cancelled : List Line
lease_cancelled =
    (step.Open 1, [])
    ∷ (asks 1 1 declare_job, to 1 (says.Done 1))
    ∷ (asks 1 2 (ask.Txn (pos 1000)), to 1 (says.Leased 2 1 1000))
    ∷ (asks 1 3 (ask.Write (record (one_job 1) { txn = Some (pos 1) })), to 1 (says.Leased 3 2 1000))
    ∷ (asks 1 4 (ask.Take (record (for_job 5) { txn = Some (pos 1); timeout = pos 1000 })), [])
    ∷ (asks 1 5 (ask.Cancel (pos 1)), (1, says.Done 5) ∷ (1, says.Refused (Some 4) refusals.LeftActive) ∷ [])
    ∷ (asks 1 6 (ask.Read (for_job 1)), to 1 (says.Nothing 6))
    ∷ (asks 1 7 (ask.State (pos 1)), to 1 (says.Refused (Some 7) refusals.UnknownTransaction))
    ∷ (asks 1 8 (ask.Txn (pos 1000)), to 1 (says.Leased 8 4 1000))
    ∷ (asks 1 9 (ask.Take (record (for_job 5) { txn = Some (pos 4); timeout = pos 1000 })), [])
    ∷ (asks 1 10 (ask.CancelAll (pos 4 ∷ pos 4 ∷ [])), (1, says.Leases 10 (record { lease = pos 4; outcome = outcome.Cancelled } ∷ record { lease = pos 4; outcome = outcome.Refused refusals.UnknownLease } ∷ [])) ∷ (1, says.Refused (Some 9) refusals.LeftActive) ∷ [])
    ∷ []

pub cancel_of_its_lease_aborts_a_transaction : Goes lease_cancelled
unfolding refusal is_quiet due touches said is_legal next
cancel_of_its_lease_aborts_a_transaction = refl

pub not_published_by_a_cancel : FailsAt 6 (instead 6 (gets 1 6 (ask.Read (for_job 1)) (2 ∷ [])) lease_cancelled)
unfolding refusal is_quiet due touches said is_legal next
not_published_by_a_cancel = refl

-- ---- the end of its lease

abbrev lease_ends_after_a_take : List Line
lease_ends_after_a_take =
    (step.Open 1, [])
    ∷ (asks 1 1 declare_job, to 1 (says.Done 1))
    ∷ (step.Open 2, [])
    ∷ (asks 1 2 (ask.Write (record (one_job 1) { lease = pos 70 })), to 1 (says.Leased 2 1 70))
    ∷ (asks 1 3 (ask.Txn (pos 40)), to 1 (says.Leased 3 2 40))
    ∷ (gets 1 4 (ask.Take (record (for_job 1) { txn = Some (pos 2) })) (1 ∷ []), to 1 (says.Shown 4 (job 1)))
    ∷ (asks 2 1 (ask.Take (record (for_job 1) { timeout = pos 60 })), [])
    ∷ (step.Clock 100, [])
    ∷ (ends rank.Transaction 2 40, [])
    ∷ (step.Grant 3 (1 ∷ []), to 2 (says.Shown 1 (job 1)))
    ∷ []

pub transaction_that_ends_gives_its_entry_back : Goes lease_ends_after_a_take
unfolding refusal is_quiet due touches said is_legal next
transaction_that_ends_gives_its_entry_back = refl

pub not_granted_before_the_transaction_ends : FailsAt 8 (without 8 lease_ends_after_a_take)
unfolding refusal is_quiet due touches said is_legal next
not_granted_before_the_transaction_ends = refl

pub not_the_request_before_the_transaction : FailsAt 8 (instead 8 (ends rank.Blocked 3 60) lease_ends_after_a_take)
unfolding refusal is_quiet due touches said is_legal next
not_the_request_before_the_transaction = refl

pub not_the_entry_before_the_transaction : FailsAt 8 (instead 8 (ends rank.Entry 1 70) lease_ends_after_a_take)
unfolding refusal is_quiet due touches said is_legal next
not_the_entry_before_the_transaction = refl

pub not_timed_out_while_it_can_be_granted : FailsAt 9 (instead 9 (ends rank.Blocked 3 60) lease_ends_after_a_take)
unfolding refusal is_quiet due touches said is_legal next
not_timed_out_while_it_can_be_granted = refl

pub not_the_entry_while_it_can_be_granted : FailsAt 9 (instead 9 (ends rank.Entry 1 70) lease_ends_after_a_take)
unfolding refusal is_quiet due touches said is_legal next
not_the_entry_while_it_can_be_granted = refl

abbrev lease_ends_after_a_write : List Line
lease_ends_after_a_write =
    (step.Open 1, [])
    ∷ (asks 1 1 declare_job, to 1 (says.Done 1))
    ∷ (asks 1 2 (ask.Txn (pos 40)), to 1 (says.Leased 2 1 40))
    ∷ (asks 1 3 (ask.Write (record (one_job 1) { txn = Some (pos 1) })), to 1 (says.Leased 3 2 1000))
    ∷ (step.Clock 40, [])
    ∷ (ends rank.Transaction 1 40, [])
    ∷ (asks 1 4 (ask.Commit (pos 1)), to 1 (says.Refused (Some 4) refusals.UnknownTransaction))
    ∷ (asks 1 5 (ask.Read (for_job 1)), to 1 (says.Nothing 5))
    ∷ (asks 1 6 (ask.Cancel (pos 2)), to 1 (says.Refused (Some 6) refusals.UnknownLease))
    ∷ []

pub transaction_that_ends_loses_its_writes : Goes lease_ends_after_a_write
unfolding refusal is_quiet due touches said is_legal next
transaction_that_ends_loses_its_writes = refl

pub not_committed_while_it_is_due : FailsAt 5 (without 5 lease_ends_after_a_write)
unfolding refusal is_quiet due touches said is_legal next
not_committed_while_it_is_due = refl

pub not_published_by_the_end_of_its_lease : FailsAt 7 (instead 7 (gets 1 5 (ask.Read (for_job 1)) (2 ∷ [])) lease_ends_after_a_write)
unfolding refusal is_quiet due touches said is_legal next
not_published_by_the_end_of_its_lease = refl

abbrev lease_ends_while_one_waits : List Line
lease_ends_while_one_waits =
    (step.Open 1, [])
    ∷ (asks 1 1 declare_job, to 1 (says.Done 1))
    ∷ (asks 1 2 (ask.Txn (pos 40)), to 1 (says.Leased 2 1 40))
    ∷ (asks 1 3 (ask.Take (record (for_job 1) { txn = Some (pos 1); timeout = pos 1000 })), [])
    ∷ (step.Clock 40, [])
    ∷ (ends rank.Transaction 1 40, to 1 (says.Refused (Some 3) refusals.LeftActive))
    ∷ []

pub transaction_that_ends_refuses_its_waiting_requests : Goes lease_ends_while_one_waits
unfolding refusal is_quiet due touches said is_legal next
transaction_that_ends_refuses_its_waiting_requests = refl

pub not_refused_before_the_lease_ends : FailsAt 4 (instead 4 (ends rank.Transaction 1 40) lease_ends_while_one_waits)
unfolding refusal is_quiet due touches said is_legal next
not_refused_before_the_lease_ends = refl

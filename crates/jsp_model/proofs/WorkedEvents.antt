-- Worked runs of registrations: which writes and commits they are owed an event for, and when it is told.
use Rattle.std.specs.Prelude.{refl, pos, true, List, [], ◌∷◌, Some, codes}
use Rattle.jsp_wire.specs.declared.ask.Ask.TheVariants as ask
use Rattle.jsp_reply.specs.declared.refusal.Refusal.TheVariants as refusals
use Rattle.jsp_reply.specs.declared.reply.Reply.TheVariants as says
use Rattle.jsp_lease.specs.declared.item.Rank.TheVariants as rank
use Rattle.jsp_model.specs.declared.step.Step.TheVariants as step
use Rattle.jsp_model.specs.Quiet.{is_quiet}
use Rattle.jsp_model.specs.Due.{due}
use Rattle.jsp_model.specs.Touches.{touches}
use Rattle.jsp_model.specs.Refusals.{refusal}
use Rattle.jsp_model.specs.Answers.{said}
use Rattle.jsp_model.specs.Steps.{is_legal, next}
use Rattle.jsp_model.proofs.WorkedParts.{Line, Goes, FailsAt, instead, before, without, asks, gets, to, ends, raw_job, job, declare_job, one_job, for_job, on_jobs}

-- ---- registrations under no transaction

abbrev entries_written : List Line
entries_written =
    (step.Open 1, [])
    ∷ (step.Open 2, [])
    ∷ (asks 1 1 declare_job, to 1 (says.Done 1))
    ∷ (asks 2 1 (ask.Notify (on_jobs (codes "h"))), to 2 (says.Leased 1 1 5000))
    ∷ (asks 1 2 (ask.Write (one_job 1)), to 1 (says.Leased 2 2 1000))
    ∷ (step.Tell 1, to 2 (says.Told (codes "h") 1 1))
    ∷ (asks 1 3 (ask.Write (one_job 2)), to 1 (says.Leased 3 3 1000))
    ∷ (step.Tell 1, to 2 (says.Told (codes "h") 1 2))
    ∷ (asks 1 4 (ask.Write (record (one_job 3) { space = codes "b" })), to 1 (says.Leased 4 4 1000))
    ∷ (step.HandOut 2 3, [])
    ∷ []

pub each_write_is_told_in_its_order : Goes entries_written
unfolding refusal is_quiet due touches said is_legal next
each_write_is_told_in_its_order = refl

pub not_told_before_the_write : FailsAt 4 (before 4 (step.Tell 1) entries_written)
unfolding refusal is_quiet due touches said is_legal next
not_told_before_the_write = refl

pub not_told_of_another_space : FailsAt 9 (before 9 (step.Tell 1) entries_written)
unfolding refusal is_quiet due touches said is_legal next
not_told_of_another_space = refl

pub not_asked_before_it_is_told : FailsAt 7 (instead 7 (asks 1 4 (ask.Write (one_job 3))) entries_written)
unfolding refusal is_quiet due touches said is_legal next
not_asked_before_it_is_told = refl

pub not_of_a_row : FailsAt 5 (instead 5 (step.Tell 2) entries_written)
unfolding refusal is_quiet due touches said is_legal next
not_of_a_row = refl

abbrev two_registrations : List Line
two_registrations =
    (step.Open 1, [])
    ∷ (step.Open 2, [])
    ∷ (asks 1 1 declare_job, to 1 (says.Done 1))
    ∷ (asks 1 2 (ask.Notify (on_jobs (codes "x"))), to 1 (says.Leased 2 1 5000))
    ∷ (asks 2 1 (ask.Notify (record (on_jobs (codes "y")) { template = Some (raw_job 1) })), to 2 (says.Leased 1 2 5000))
    ∷ (asks 1 3 (ask.Write (one_job 1)), to 1 (says.Leased 3 3 1000))
    ∷ (step.Tell 2, to 2 (says.Told (codes "y") 2 1))
    ∷ (step.Tell 1, to 1 (says.Told (codes "x") 1 1))
    ∷ (asks 1 4 (ask.Write (one_job 2)), to 1 (says.Leased 4 4 1000))
    ∷ (step.Tell 1, to 1 (says.Told (codes "x") 1 2))
    ∷ []

pub each_registration_is_told_of_what_its_template_matches : Goes two_registrations
unfolding refusal is_quiet due touches said is_legal next
each_registration_is_told_of_what_its_template_matches = refl

pub not_told_of_what_doesnt_match : FailsAt 9 (instead 9 (step.Tell 2) two_registrations)
unfolding refusal is_quiet due touches said is_legal next
not_told_of_what_doesnt_match = refl

pub not_asked_before_both_are_told : FailsAt 7 (without 7 two_registrations)
unfolding refusal is_quiet due touches said is_legal next
not_asked_before_both_are_told = refl

abbrev entries_committed : List Line
entries_committed =
    (step.Open 1, [])
    ∷ (asks 1 1 declare_job, to 1 (says.Done 1))
    ∷ (step.Open 2, [])
    ∷ (asks 2 1 (ask.Write (one_job 9)), to 2 (says.Leased 1 1 1000))
    ∷ (asks 2 2 (ask.Notify (on_jobs (codes "h"))), to 2 (says.Leased 2 2 5000))
    ∷ (asks 1 2 (ask.Txn (pos 1000)), to 1 (says.Leased 2 3 1000))
    ∷ (asks 1 3 (ask.Write (record (one_job 1) { txn = Some (pos 3) })), to 1 (says.Leased 3 4 1000))
    ∷ (asks 1 4 (ask.Write (record (one_job 2) { txn = Some (pos 3) })), to 1 (says.Leased 4 5 1000))
    ∷ (gets 1 5 (ask.Take (record (for_job 1) { txn = Some (pos 3) })) (4 ∷ []), to 1 (says.Shown 5 (job 1)))
    ∷ (asks 1 6 (ask.Commit (pos 3)), [])
    ∷ (step.Vote 3 0, [])
    ∷ (step.Decide 3 true, to 1 (says.Done 6))
    ∷ (step.Tell 2, to 2 (says.Told (codes "h") 2 1))
    ∷ (gets 2 3 (ask.Read (for_job 2)) (5 ∷ []), to 2 (says.Shown 3 (job 2)))
    ∷ []

pub commit_is_told_of_what_it_publishes : Goes entries_committed
unfolding refusal is_quiet due touches said is_legal next
commit_is_told_of_what_it_publishes = refl

pub not_told_of_a_hidden_write : FailsAt 8 (before 8 (step.Tell 2) entries_committed)
unfolding refusal is_quiet due touches said is_legal next
not_told_of_a_hidden_write = refl

pub not_told_before_the_decision : FailsAt 11 (before 11 (step.Tell 2) entries_committed)
unfolding refusal is_quiet due touches said is_legal next
not_told_before_the_decision = refl

pub not_told_of_the_entry_that_was_taken : FailsAt 13 (before 13 (step.Tell 2) entries_committed)
unfolding refusal is_quiet due touches said is_legal next
not_told_of_the_entry_that_was_taken = refl

pub not_read_before_it_is_told : FailsAt 12 (without 12 entries_committed)
unfolding refusal is_quiet due touches said is_legal next
not_read_before_it_is_told = refl

abbrev entries_aborted : List Line
entries_aborted =
    (step.Open 1, [])
    ∷ (asks 1 1 declare_job, to 1 (says.Done 1))
    ∷ (asks 1 2 (ask.Notify (on_jobs (codes "h"))), to 1 (says.Leased 2 1 5000))
    ∷ (asks 1 3 (ask.Write (record (one_job 1) { lease = pos 100 })), to 1 (says.Leased 3 2 100))
    ∷ (step.Tell 1, to 1 (says.Told (codes "h") 1 1))
    ∷ (asks 1 4 (ask.Txn (pos 1000)), to 1 (says.Leased 4 3 1000))
    ∷ (asks 1 5 (ask.Write (record (one_job 2) { txn = Some (pos 3) })), to 1 (says.Leased 5 4 1000))
    ∷ (gets 1 6 (ask.Take (record (for_job 1) { txn = Some (pos 3) })) (2 ∷ []), to 1 (says.Shown 6 (job 1)))
    ∷ (asks 1 7 (ask.Abort (pos 3)), to 1 (says.Done 7))
    ∷ (gets 1 8 (ask.Read (for_job 1)) (2 ∷ []), to 1 (says.Shown 8 (job 1)))
    ∷ []

pub abort_is_told_to_nobody : Goes entries_aborted
unfolding refusal is_quiet due touches said is_legal next
abort_is_told_to_nobody = refl

pub not_told_of_what_was_aborted : FailsAt 9 (before 9 (step.Tell 1) entries_aborted)
unfolding refusal is_quiet due touches said is_legal next
not_told_of_what_was_aborted = refl

-- ---- a registration under a transaction

abbrev hears_its_transaction : List Line
hears_its_transaction =
    (step.Open 1, [])
    ∷ (asks 1 1 declare_job, to 1 (says.Done 1))
    ∷ (asks 1 2 (ask.Txn (pos 1000)), to 1 (says.Leased 2 1 1000))
    ∷ (asks 1 3 (ask.Notify (record (on_jobs (codes "x")) { txn = Some (pos 1) })), to 1 (says.Leased 3 2 5000))
    ∷ (asks 1 4 (ask.Write (record (one_job 1) { txn = Some (pos 1) })), to 1 (says.Leased 4 3 1000))
    ∷ (step.Tell 2, to 1 (says.Told (codes "x") 2 1))
    ∷ (asks 1 5 (ask.Write (one_job 2)), to 1 (says.Leased 5 4 1000))
    ∷ (step.Tell 2, to 1 (says.Told (codes "x") 2 2))
    ∷ (asks 1 6 (ask.Abort (pos 1)), to 1 (says.Done 6))
    ∷ (asks 1 7 (ask.Cancel (pos 2)), to 1 (says.Refused (Some 7) refusals.UnknownLease))
    ∷ []

pub registration_under_a_transaction_is_told_of_its_writes_and_of_others : Goes hears_its_transaction
unfolding refusal is_quiet due touches said is_legal next
registration_under_a_transaction_is_told_of_its_writes_and_of_others = refl

pub not_asked_before_the_first_is_told : FailsAt 5 (without 5 hears_its_transaction)
unfolding refusal is_quiet due touches said is_legal next
not_asked_before_the_first_is_told = refl

pub not_told_a_third_time : FailsAt 8 (before 8 (step.Tell 2) hears_its_transaction)
unfolding refusal is_quiet due touches said is_legal next
not_told_a_third_time = refl

abbrev registration_ends : List Line
registration_ends =
    (step.Open 1, [])
    ∷ (asks 1 1 declare_job, to 1 (says.Done 1))
    ∷ (asks 1 2 (ask.Txn (pos 1000)), to 1 (says.Leased 2 1 1000))
    ∷ (asks 1 3 (ask.Notify (record (on_jobs (codes "x")) { txn = Some (pos 1) })), to 1 (says.Leased 3 2 5000))
    ∷ (asks 1 4 (ask.Commit (pos 1)), [])
    ∷ (step.Vote 1 0, [])
    ∷ (step.Decide 1 true, to 1 (says.Done 4))
    ∷ (asks 1 5 (ask.Write (one_job 1)), to 1 (says.Leased 5 3 1000))
    ∷ (asks 1 6 (ask.Cancel (pos 2)), to 1 (says.Refused (Some 6) refusals.UnknownLease))
    ∷ []

pub registration_ends_with_its_transaction : Goes registration_ends
unfolding refusal is_quiet due touches said is_legal next
registration_ends_with_its_transaction = refl

pub not_told_once_its_transaction_has_ended : FailsAt 8 (before 8 (step.Tell 2) registration_ends)
unfolding refusal is_quiet due touches said is_legal next
not_told_once_its_transaction_has_ended = refl

pub not_decided_before_the_space_of_the_registration_votes : FailsAt 5 (without 5 registration_ends)
unfolding refusal is_quiet due touches said is_legal next
not_decided_before_the_space_of_the_registration_votes = refl

abbrev still_hears_while_voting : List Line
still_hears_while_voting =
    (step.Open 1, [])
    ∷ (asks 1 1 declare_job, to 1 (says.Done 1))
    ∷ (asks 1 2 (ask.Txn (pos 1000)), to 1 (says.Leased 2 1 1000))
    ∷ (asks 1 3 (ask.Notify (record (on_jobs (codes "x")) { txn = Some (pos 1) })), to 1 (says.Leased 3 2 5000))
    ∷ (asks 1 4 (ask.Commit (pos 1)), [])
    ∷ (asks 1 5 (ask.Write (one_job 1)), to 1 (says.Leased 5 3 1000))
    ∷ (step.Tell 2, to 1 (says.Told (codes "x") 2 1))
    ∷ (step.Vote 1 0, [])
    ∷ (step.Decide 1 true, to 1 (says.Done 4))
    ∷ []

pub registration_is_told_until_its_transaction_is_decided : Goes still_hears_while_voting
unfolding refusal is_quiet due touches said is_legal next
registration_is_told_until_its_transaction_is_decided = refl

pub not_voted_while_an_event_is_owed : FailsAt 6 (without 6 still_hears_while_voting)
unfolding refusal is_quiet due touches said is_legal next
not_voted_while_an_event_is_owed = refl

-- ---- what may be asked while an event is owed

abbrev owed_in_a : List Line
owed_in_a =
    (step.Open 1, [])
    ∷ (step.Open 2, [])
    ∷ (asks 1 1 declare_job, to 1 (says.Done 1))
    ∷ (asks 2 1 (ask.Notify (on_jobs (codes "h"))), to 2 (says.Leased 1 1 5000))
    ∷ (asks 1 2 (ask.Txn (pos 1000)), to 1 (says.Leased 2 2 1000))
    ∷ (asks 1 3 (ask.Write (record (one_job 1) { txn = Some (pos 2) })), to 1 (says.Leased 3 3 1000))
    ∷ (asks 1 4 (ask.Commit (pos 2)), [])
    ∷ (step.Vote 2 0, [])
    ∷ (step.Decide 2 true, to 1 (says.Done 4))
    ∷ (asks 1 5 (ask.Write (record (one_job 2) { space = codes "b" })), to 1 (says.Leased 5 4 1000))
    ∷ (asks 1 6 ask.Spaces, to 1 (says.Names 6 (codes "a" ∷ codes "b" ∷ [])))
    ∷ (asks 1 7 (ask.Renew (pos 4) (pos 500)), to 1 (says.Leased 7 4 500))
    ∷ (step.Tell 1, to 2 (says.Told (codes "h") 1 1))
    ∷ (asks 1 8 (ask.Renew (pos 3) (pos 500)), to 1 (says.Leased 8 3 500))
    ∷ []

pub another_space_is_asked_while_an_event_is_owed : Goes owed_in_a
unfolding refusal is_quiet due touches said is_legal next
another_space_is_asked_while_an_event_is_owed = refl

pub not_renewed_in_the_space_of_the_event : FailsAt 12 (before 12 (asks 1 8 (ask.Renew (pos 3) (pos 500))) owed_in_a)
unfolding refusal is_quiet due touches said is_legal next
not_renewed_in_the_space_of_the_event = refl

pub not_cancelled_in_a_batch_in_the_space_of_the_event : FailsAt 12 (before 12 (asks 1 8 (ask.CancelAll (pos 4 ∷ pos 3 ∷ []))) owed_in_a)
unfolding refusal is_quiet due touches said is_legal next
not_cancelled_in_a_batch_in_the_space_of_the_event = refl

pub not_written_in_the_space_of_the_event : FailsAt 12 (before 12 (asks 1 8 (ask.Write (one_job 3))) owed_in_a)
unfolding refusal is_quiet due touches said is_legal next
not_written_in_the_space_of_the_event = refl

pub not_reset_while_an_event_is_owed : FailsAt 12 (before 12 (asks 1 8 (ask.Reset (codes "a"))) owed_in_a)
unfolding refusal is_quiet due touches said is_legal next
not_reset_while_an_event_is_owed = refl

-- ---- its lease ends

abbrev registrations_lease_ends : List Line
registrations_lease_ends =
    (step.Open 1, [])
    ∷ (asks 1 1 declare_job, to 1 (says.Done 1))
    ∷ (asks 1 2 (ask.Notify (record (on_jobs (codes "h")) { lease = pos 50 })), to 1 (says.Leased 2 1 50))
    ∷ (asks 1 3 (ask.Write (one_job 1)), to 1 (says.Leased 3 2 1000))
    ∷ (step.Clock 50, [])
    ∷ (step.Tell 1, to 1 (says.Told (codes "h") 1 1))
    ∷ (ends rank.Registration 1 50, [])
    ∷ (asks 1 4 (ask.Write (one_job 2)), to 1 (says.Leased 4 3 1000))
    ∷ []

pub registration_ends_with_its_lease : Goes registrations_lease_ends
unfolding refusal is_quiet due touches said is_legal next
registration_ends_with_its_lease = refl

pub not_ended_while_an_event_is_owed : FailsAt 5 (instead 5 (ends rank.Registration 1 50) registrations_lease_ends)
unfolding refusal is_quiet due touches said is_legal next
not_ended_while_an_event_is_owed = refl

pub not_told_once_its_lease_has_ended : FailsAt 8 (before 8 (step.Tell 1) registrations_lease_ends)
unfolding refusal is_quiet due touches said is_legal next
not_told_once_its_lease_has_ended = refl

-- Worked runs of leases and the clock: what is granted, renewed and cancelled, and in which order things end.
use Rattle.std.specs.Prelude.{refl, pos, negsuc, true, List, [], ◌∷◌, Some, None, codes}
use Rattle.jsp_wire.specs.declared.ask.Ask.TheVariants as ask
use Rattle.jsp_wire.specs.declared.ask.Version.TheVariants as version
use Rattle.jsp_reply.specs.declared.refusal.Refusal.TheVariants as refusals
use Rattle.jsp_reply.specs.declared.reply.Reply.TheVariants as says
use Rattle.jsp_reply.specs.declared.reply.LeaseOutcome.TheVariants as outcome
use Rattle.jsp_reply.specs.declared.reply.TxnState.TheVariants.{Active}
use Rattle.jsp_lease.specs.declared.item.Rank.TheVariants as rank
use Rattle.jsp_model.specs.declared.step.Step.TheVariants as step
use Rattle.jsp_model.specs.Quiet.{is_quiet}
use Rattle.jsp_model.specs.Due.{due}
use Rattle.jsp_model.specs.Touches.{touches}
use Rattle.jsp_model.specs.Refusals.{refusal}
use Rattle.jsp_model.specs.Answers.{said}
use Rattle.jsp_model.specs.Steps.{is_legal, next}
use Rattle.jsp_model.proofs.WorkedParts.{Line, Goes, FailsAt, instead, before, without, asks, gets, to, ends, job, declare_job, one_job, for_job, on_jobs, all_jobs}

-- ---- what is granted

abbrev leases_asked : List Line
leases_asked =
    (step.Open 1, [])
    ∷ (asks 1 1 declare_job, to 1 (says.Done 1))
    ∷ (asks 1 2 (ask.Write (record (one_job 1) { lease = pos 0 })), to 1 (says.Leased 2 1 0))
    ∷ (ends rank.Entry 1 0, [])
    ∷ (asks 1 3 (ask.Read (for_job 1)), to 1 (says.Nothing 3))
    ∷ (asks 1 4 (ask.Write (record (one_job 1) { lease = negsuc 0 })), to 1 (says.Leased 4 2 60000))
    ∷ (asks 1 5 (ask.Write (record (one_job 1) { lease = negsuc 1 })), to 1 (says.Refused (Some 5) refusals.BadLease))
    ∷ (asks 1 6 (ask.Write (record (one_job 1) { lease = pos 9223372036854775807 })), to 1 (says.Leased 6 3 3600000))
    ∷ (asks 1 7 (ask.Txn (negsuc 1)), to 1 (says.Refused (Some 7) refusals.BadLease))
    ∷ (asks 1 8 (ask.Notify (record (on_jobs (codes "h")) { lease = negsuc 1 })), to 1 (says.Refused (Some 8) refusals.BadLease))
    ∷ []

pub leases_are_granted_or_refused : Goes leases_asked
unfolding refusal is_quiet due touches said is_legal next
leases_are_granted_or_refused = refl

pub not_read_while_it_is_due : FailsAt 3 (without 3 leases_asked)
unfolding refusal is_quiet due touches said is_legal next
not_read_while_it_is_due = refl

pub not_read_after_its_end : FailsAt 4 (instead 4 (gets 1 3 (ask.Read (for_job 1)) (1 ∷ [])) leases_asked)
unfolding refusal is_quiet due touches said is_legal next
not_read_after_its_end = refl

pub not_ended_twice : FailsAt 4 (before 4 (ends rank.Entry 1 0) leases_asked)
unfolding refusal is_quiet due touches said is_legal next
not_ended_twice = refl

abbrev lease_of_0_granted : List Line
lease_of_0_granted =
    (step.Open 1, [])
    ∷ (asks 1 1 declare_job, to 1 (says.Done 1))
    ∷ (asks 1 2 (ask.Take (record (for_job 1) { timeout = pos 1000 })), [])
    ∷ (asks 1 3 (ask.Write (record (one_job 1) { lease = pos 0 })), to 1 (says.Leased 3 2 0))
    ∷ (step.Grant 1 (2 ∷ []), to 1 (says.Shown 2 (job 1)))
    ∷ (asks 1 4 ask.Spaces, to 1 (says.Names 4 (codes "a" ∷ codes "b" ∷ [])))
    ∷ []

pub waiting_take_is_given_an_entry_of_lease_0 : Goes lease_of_0_granted
unfolding refusal is_quiet due touches said is_legal next
waiting_take_is_given_an_entry_of_lease_0 = refl

pub not_ended_before_it_is_granted : FailsAt 4 (instead 4 (ends rank.Entry 2 0) lease_of_0_granted)
unfolding refusal is_quiet due touches said is_legal next
not_ended_before_it_is_granted = refl

pub not_ended_once_it_is_taken : FailsAt 5 (before 5 (ends rank.Entry 2 0) lease_of_0_granted)
unfolding refusal is_quiet due touches said is_legal next
not_ended_once_it_is_taken = refl

-- ---- the clock

abbrev entry_read_until_its_end : List Line
entry_read_until_its_end =
    (step.Open 1, [])
    ∷ (asks 1 1 declare_job, to 1 (says.Done 1))
    ∷ (asks 1 2 (ask.Write (one_job 1)), to 1 (says.Leased 2 1 1000))
    ∷ (step.Clock 999, [])
    ∷ (gets 1 3 (ask.Read (for_job 1)) (1 ∷ []), to 1 (says.Shown 3 (job 1)))
    ∷ (step.Clock 1000, [])
    ∷ (ends rank.Entry 1 1000, [])
    ∷ (asks 1 4 (ask.Read (for_job 1)), to 1 (says.Nothing 4))
    ∷ []

pub entry_lives_until_its_lease_ends : Goes entry_read_until_its_end
unfolding refusal is_quiet due touches said is_legal next
entry_lives_until_its_lease_ends = refl

pub not_ended_before_its_time : FailsAt 4 (instead 4 (ends rank.Entry 1 1000) entry_read_until_its_end)
unfolding refusal is_quiet due touches said is_legal next
not_ended_before_its_time = refl

pub not_null_before_its_end : FailsAt 4 (instead 4 (asks 1 3 (ask.Read (for_job 1))) entry_read_until_its_end)
unfolding refusal is_quiet due touches said is_legal next
not_null_before_its_end = refl

pub not_read_at_its_end : FailsAt 6 (instead 6 (gets 1 4 (ask.Read (for_job 1)) (1 ∷ [])) entry_read_until_its_end)
unfolding refusal is_quiet due touches said is_legal next
not_read_at_its_end = refl

abbrev clock_readings : List Line
clock_readings =
    (step.Open 1, [])
    ∷ (asks 1 1 declare_job, to 1 (says.Done 1))
    ∷ (step.Clock 100, [])
    ∷ (step.Clock 50, [])
    ∷ (asks 1 2 (ask.Write (record (one_job 1) { lease = pos 10 })), to 1 (says.Leased 2 1 10))
    ∷ (step.Clock 109, [])
    ∷ (gets 1 3 (ask.Read (for_job 1)) (1 ∷ []), to 1 (says.Shown 3 (job 1)))
    ∷ (step.Clock 110, [])
    ∷ (ends rank.Entry 1 110, [])
    ∷ (asks 1 4 (ask.Read (for_job 1)), to 1 (says.Nothing 4))
    ∷ []

pub clock_never_goes_back : Goes clock_readings
unfolding refusal is_quiet due touches said is_legal next
clock_never_goes_back = refl

pub not_ended_by_the_lesser_reading : FailsAt 6 (instead 6 (ends rank.Entry 1 60) clock_readings)
unfolding refusal is_quiet due touches said is_legal next
not_ended_by_the_lesser_reading = refl

pub not_kept_by_a_lesser_reading : FailsAt 9 (instead 8 (step.Clock 109) clock_readings)
unfolding refusal is_quiet due touches said is_legal next
not_kept_by_a_lesser_reading = refl

abbrev greatest_reading : List Line
greatest_reading =
    (step.Open 1, [])
    ∷ (asks 1 1 declare_job, to 1 (says.Done 1))
    ∷ (asks 1 2 (ask.Write (one_job 1)), to 1 (says.Leased 2 1 1000))
    ∷ (step.Clock 18446744073709551615, [])
    ∷ (ends rank.Entry 1 1000, [])
    ∷ (asks 1 3 (ask.Read (for_job 1)), to 1 (says.Nothing 3))
    ∷ (asks 1 4 (ask.Write (one_job 1)), to 1 (says.Leased 4 2 1000))
    ∷ (step.Clock 18446744073709551615, [])
    ∷ (gets 1 5 (ask.Read (for_job 1)) (2 ∷ []), to 1 (says.Shown 5 (job 1)))
    ∷ []

pub time_stops_at_its_limit : Goes greatest_reading
unfolding refusal is_quiet due touches said is_legal next
time_stops_at_its_limit = refl

pub not_ended_past_the_limit_of_time : FailsAt 8 (instead 8 (ends rank.Entry 2 4611686018427388904) greatest_reading)
unfolding refusal is_quiet due touches said is_legal next
not_ended_past_the_limit_of_time = refl

pub not_null_at_the_limit_of_time : FailsAt 8 (instead 8 (asks 1 5 (ask.Read (for_job 1))) greatest_reading)
unfolding refusal is_quiet due touches said is_legal next
not_null_at_the_limit_of_time = refl

-- ---- renewing

abbrev lease_renewed : List Line
lease_renewed =
    (step.Open 1, [])
    ∷ (asks 1 1 declare_job, to 1 (says.Done 1))
    ∷ (asks 1 2 (ask.Write (one_job 1)), to 1 (says.Leased 2 1 1000))
    ∷ (step.Clock 900, [])
    ∷ (asks 1 3 (ask.Renew (pos 1) (pos 500)), to 1 (says.Leased 3 1 500))
    ∷ (step.Clock 1399, [])
    ∷ (gets 1 4 (ask.Read (for_job 1)) (1 ∷ []), to 1 (says.Shown 4 (job 1)))
    ∷ (step.Clock 1400, [])
    ∷ (ends rank.Entry 1 1400, [])
    ∷ (asks 1 5 (ask.Read (for_job 1)), to 1 (says.Nothing 5))
    ∷ (asks 1 6 (ask.Renew (pos 1) (pos 500)), to 1 (says.Refused (Some 6) refusals.UnknownLease))
    ∷ []

pub renewal_counts_from_now : Goes lease_renewed
unfolding refusal is_quiet due touches said is_legal next
renewal_counts_from_now = refl

pub not_read_while_it_is_due_again : FailsAt 8 (instead 8 (gets 1 5 (ask.Read (for_job 1)) (1 ∷ [])) lease_renewed)
unfolding refusal is_quiet due touches said is_legal next
not_read_while_it_is_due_again = refl

pub not_ended_at_its_old_end : FailsAt 6 (instead 6 (ends rank.Entry 1 1000) lease_renewed)
unfolding refusal is_quiet due touches said is_legal next
not_ended_at_its_old_end = refl

pub not_renewed_while_it_is_due : FailsAt 8 (instead 8 (asks 1 6 (ask.Renew (pos 1) (pos 500))) lease_renewed)
unfolding refusal is_quiet due touches said is_legal next
not_renewed_while_it_is_due = refl

abbrev renewal_refused : List Line
renewal_refused =
    (step.Open 1, [])
    ∷ (step.Open 2, [])
    ∷ (asks 1 1 declare_job, to 1 (says.Done 1))
    ∷ (asks 1 2 (ask.Write (one_job 1)), to 1 (says.Leased 2 1 1000))
    ∷ (asks 2 1 (ask.Renew (pos 1) (negsuc 1)), to 2 (says.Refused (Some 1) refusals.BadLease))
    ∷ (asks 2 2 (ask.Renew (pos 2) (pos 500)), to 2 (says.Refused (Some 2) refusals.UnknownLease))
    ∷ (asks 2 3 (ask.Renew (negsuc 0) (pos 500)), to 2 (says.Refused (Some 3) refusals.UnknownLease))
    ∷ (step.Clock 1000, [])
    ∷ (ends rank.Entry 1 1000, [])
    ∷ []

pub refused_renewal_leaves_the_old_lease : Goes renewal_refused
unfolding refusal is_quiet due touches said is_legal next
refused_renewal_leaves_the_old_lease = refl

pub not_asked_at_the_old_end : FailsAt 8 (instead 8 (asks 2 4 ask.Spaces) renewal_refused)
unfolding refusal is_quiet due touches said is_legal next
not_asked_at_the_old_end = refl

abbrev leases_renewed : List Line
leases_renewed =
    (step.Open 1, [])
    ∷ (asks 1 0 (ask.Hello version.Two), to 1 (says.Done 0))
    ∷ (step.Open 2, [])
    ∷ (asks 1 1 declare_job, to 1 (says.Done 1))
    ∷ (asks 1 2 (ask.Write (one_job 1)), to 1 (says.Leased 2 1 1000))
    ∷ (asks 1 3 (ask.Notify (record (on_jobs (codes "h")) { lease = pos 1000 })), to 1 (says.Leased 3 2 1000))
    ∷ (asks 1 4 (ask.Txn (pos 1000)), to 1 (says.Leased 4 3 1000))
    ∷ (asks 1 5 (ask.Contents all_jobs), to 1 (says.Leased 5 4 1000))
    ∷ (step.Clock 500, [])
    ∷ (asks 2 1 (ask.Renew (pos 4) (pos 600)), to 2 (says.Leased 1 4 600))
    ∷ (asks 2 2 (ask.Renew (pos 3) (pos 600)), to 2 (says.Leased 2 3 600))
    ∷ (asks 2 3 (ask.Renew (pos 2) (pos 600)), to 2 (says.Leased 3 2 600))
    ∷ (asks 2 4 (ask.Renew (pos 1) (pos 600)), to 2 (says.Leased 4 1 600))
    ∷ (step.Clock 1099, [])
    ∷ (asks 1 6 (ask.Next (pos 4) 16), to 1 (says.Page 6 true (job 1 ∷ [])))
    ∷ (asks 1 7 (ask.State (pos 3)), to 1 (says.State 7 Active))
    ∷ (step.Clock 1100, [])
    ∷ (ends rank.Entry 1 1100, [])
    ∷ (ends rank.Registration 2 1100, [])
    ∷ (ends rank.Transaction 3 1100, [])
    ∷ (ends rank.MatchSet 4 1100, [])
    ∷ (asks 1 8 (ask.Next (pos 4) 16), to 1 (says.Refused (Some 8) refusals.UnknownLease))
    ∷ (asks 1 9 (ask.State (pos 3)), to 1 (says.Refused (Some 9) refusals.UnknownTransaction))
    ∷ []

pub each_kind_of_lease_is_renewed : Goes leases_renewed
unfolding refusal is_quiet due touches said is_legal next
each_kind_of_lease_is_renewed = refl

pub not_due_before_its_renewed_end : FailsAt 15 (instead 15 (ends rank.Entry 1 1000) leases_renewed)
unfolding refusal is_quiet due touches said is_legal next
not_due_before_its_renewed_end = refl

pub not_asked_before_the_last_has_ended : FailsAt 20 (without 20 leases_renewed)
unfolding refusal is_quiet due touches said is_legal next
not_asked_before_the_last_has_ended = refl

abbrev batch_renewed : List Line
batch_renewed =
    (step.Open 1, [])
    ∷ (asks 1 1 declare_job, to 1 (says.Done 1))
    ∷ (asks 1 2 (ask.Write (one_job 1)), to 1 (says.Leased 2 1 1000))
    ∷ (step.Clock 10, [])
    ∷ (asks 1 3 (ask.RenewAll ((pos 1, negsuc 0) ∷ (pos 2, pos 5) ∷ (pos 1, negsuc 1) ∷ [])), to 1 (says.Leases 3 (record { lease = pos 1; outcome = outcome.Renewed 60000 } ∷ record { lease = pos 2; outcome = outcome.Refused refusals.UnknownLease } ∷ record { lease = pos 1; outcome = outcome.Refused refusals.BadLease } ∷ [])))
    ∷ (step.Clock 60009, [])
    ∷ (gets 1 4 (ask.Read (for_job 1)) (1 ∷ []), to 1 (says.Shown 4 (job 1)))
    ∷ (step.Clock 60010, [])
    ∷ (ends rank.Entry 1 60010, [])
    ∷ (asks 1 5 (ask.Read (for_job 1)), to 1 (says.Nothing 5))
    ∷ []

pub batch_renewal_goes_on_past_faults : Goes batch_renewed
unfolding refusal is_quiet due touches said is_legal next
batch_renewal_goes_on_past_faults = refl

pub not_ended_at_the_end_before_the_batch : FailsAt 6 (instead 6 (ends rank.Entry 1 1000) batch_renewed)
unfolding refusal is_quiet due touches said is_legal next
not_ended_at_the_end_before_the_batch = refl

pub not_read_at_the_end_of_the_batch : FailsAt 8 (instead 8 (gets 1 5 (ask.Read (for_job 1)) (1 ∷ [])) batch_renewed)
unfolding refusal is_quiet due touches said is_legal next
not_read_at_the_end_of_the_batch = refl

-- ---- cancelling

abbrev batch_cancelled : List Line
batch_cancelled =
    (step.Open 1, [])
    ∷ (asks 1 1 declare_job, to 1 (says.Done 1))
    ∷ (asks 1 2 (ask.Write (one_job 1)), to 1 (says.Leased 2 1 1000))
    ∷ (asks 1 3 (ask.CancelAll (pos 1 ∷ pos 1 ∷ pos 99 ∷ [])), to 1 (says.Leases 3 (record { lease = pos 1; outcome = outcome.Cancelled } ∷ record { lease = pos 1; outcome = outcome.Refused refusals.UnknownLease } ∷ record { lease = pos 99; outcome = outcome.Refused refusals.UnknownLease } ∷ [])))
    ∷ []

pub batch_cancel_goes_on_past_faults : Goes batch_cancelled
unfolding refusal is_quiet due touches said is_legal next
batch_cancel_goes_on_past_faults = refl

pub not_read_once_cancelled : FailsAt 4 (before 4 (gets 1 4 (ask.Read (for_job 1)) (1 ∷ [])) batch_cancelled)
unfolding refusal is_quiet due touches said is_legal next
not_read_once_cancelled = refl

abbrev leases_cancelled : List Line
leases_cancelled =
    (step.Open 1, [])
    ∷ (asks 1 0 (ask.Hello version.Two), to 1 (says.Done 0))
    ∷ (step.Open 2, [])
    ∷ (asks 1 1 declare_job, to 1 (says.Done 1))
    ∷ (asks 1 2 (ask.Write (one_job 1)), to 1 (says.Leased 2 1 1000))
    ∷ (asks 1 3 (ask.Notify (on_jobs (codes "h"))), to 1 (says.Leased 3 2 5000))
    ∷ (asks 1 4 (ask.Contents all_jobs), to 1 (says.Leased 4 3 1000))
    ∷ (asks 1 5 (ask.Take (record (for_job 5) { timeout = pos 1000 })), [])
    ∷ (asks 2 1 (ask.Cancel (pos 4)), to 2 (says.Refused (Some 1) refusals.UnknownLease))
    ∷ (asks 2 2 (ask.Cancel (pos 0)), to 2 (says.Refused (Some 2) refusals.UnknownLease))
    ∷ (asks 2 3 (ask.Cancel (negsuc 0)), to 2 (says.Refused (Some 3) refusals.UnknownLease))
    ∷ (asks 2 4 (ask.Cancel (pos 1)), to 2 (says.Done 4))
    ∷ (asks 2 5 (ask.Cancel (pos 2)), to 2 (says.Done 5))
    ∷ (asks 2 6 (ask.Cancel (pos 3)), to 2 (says.Done 6))
    ∷ (asks 1 6 (ask.Read (for_job 1)), to 1 (says.Nothing 6))
    ∷ (asks 1 7 (ask.Next (pos 3) 16), to 1 (says.Refused (Some 7) refusals.UnknownLease))
    ∷ (asks 1 8 (ask.Write (one_job 2)), to 1 (says.Leased 8 5 1000))
    ∷ (asks 1 9 (ask.Write (one_job 5)), to 1 (says.Leased 9 6 1000))
    ∷ (step.Grant 4 (6 ∷ []), to 1 (says.Shown 5 (job 5)))
    ∷ []

pub any_session_cancels_by_number : Goes leases_cancelled
unfolding refusal is_quiet due touches said is_legal next
any_session_cancels_by_number = refl

pub not_read_once_its_lease_is_cancelled : FailsAt 14 (instead 14 (gets 1 6 (ask.Read (for_job 1)) (1 ∷ [])) leases_cancelled)
unfolding refusal is_quiet due touches said is_legal next
not_read_once_its_lease_is_cancelled = refl

pub not_told_once_its_lease_is_cancelled : FailsAt 17 (before 17 (step.Tell 2) leases_cancelled)
unfolding refusal is_quiet due touches said is_legal next
not_told_once_its_lease_is_cancelled = refl

pub not_given_up_by_a_cancel_of_its_number : FailsAt 18 (instead 18 (asks 1 10 (ask.Read (for_job 1))) leases_cancelled)
unfolding refusal is_quiet due touches said is_legal next
not_given_up_by_a_cancel_of_its_number = refl

-- ---- what may be done while something is due

abbrev goes_on_while_due : List Line
goes_on_while_due =
    (step.Open 1, [])
    ∷ (step.Open 2, [])
    ∷ (asks 1 1 declare_job, to 1 (says.Done 1))
    ∷ (asks 1 2 (ask.Txn (pos 1000)), to 1 (says.Leased 2 1 1000))
    ∷ (asks 1 3 (ask.Write (record (one_job 1) { txn = Some (pos 1); lease = pos 50 })), to 1 (says.Leased 3 2 50))
    ∷ (asks 1 4 (ask.Commit (pos 1)), [])
    ∷ (step.Clock 50, [])
    ∷ (step.HandOut 1 3, [])
    ∷ (step.Open 3, [])
    ∷ (step.Fault 3 None refusals.BadJson, to 3 (says.Refused None refusals.BadJson))
    ∷ (step.Shut 2, [])
    ∷ (step.Clock 60, [])
    ∷ (step.Vote 1 0, [])
    ∷ (ends rank.Entry 2 50, [])
    ∷ (step.Decide 1 true, to 1 (says.Done 4))
    ∷ []

pub nothing_is_asked_while_something_is_due_but_all_else_goes_on : Goes goes_on_while_due
unfolding refusal is_quiet due touches said is_legal next
nothing_is_asked_while_something_is_due_but_all_else_goes_on = refl

pub not_asked_in_another_space_while_something_is_due : FailsAt 7 (before 7 (asks 2 1 (ask.Read (record (for_job 1) { space = codes "b" }))) goes_on_while_due)
unfolding refusal is_quiet due touches said is_legal next
not_asked_in_another_space_while_something_is_due = refl

pub not_asked_even_for_no_space_while_something_is_due : FailsAt 13 (before 13 (asks 1 5 ask.Spaces) goes_on_while_due)
unfolding refusal is_quiet due touches said is_legal next
not_asked_even_for_no_space_while_something_is_due = refl

-- ---- the order of ends

abbrev two_entries_due : List Line
two_entries_due =
    (step.Open 1, [])
    ∷ (asks 1 1 declare_job, to 1 (says.Done 1))
    ∷ (asks 1 2 (ask.Write (record (one_job 1) { lease = pos 60 })), to 1 (says.Leased 2 1 60))
    ∷ (asks 1 3 (ask.Write (record (one_job 2) { lease = pos 50 })), to 1 (says.Leased 3 2 50))
    ∷ (step.Clock 100, [])
    ∷ (ends rank.Entry 2 50, [])
    ∷ (ends rank.Entry 1 60, [])
    ∷ []

pub entries_end_in_the_order_of_their_ends : Goes two_entries_due
unfolding refusal is_quiet due touches said is_legal next
entries_end_in_the_order_of_their_ends = refl

pub not_the_later_end_first : FailsAt 5 (instead 5 (ends rank.Entry 1 60) two_entries_due)
unfolding refusal is_quiet due touches said is_legal next
not_the_later_end_first = refl

pub not_asked_between_two_ends : FailsAt 6 (before 6 (asks 1 4 ask.Spaces) two_entries_due)
unfolding refusal is_quiet due touches said is_legal next
not_asked_between_two_ends = refl

pub not_with_another_end : FailsAt 5 (instead 5 (ends rank.Entry 2 60) two_entries_due)
unfolding refusal is_quiet due touches said is_legal next
not_with_another_end = refl

abbrev all_due_at_once : List Line
all_due_at_once =
    (step.Open 1, [])
    ∷ (asks 1 0 (ask.Hello version.Two), to 1 (says.Done 0))
    ∷ (asks 1 1 declare_job, to 1 (says.Done 1))
    ∷ (asks 1 2 (ask.Contents (record all_jobs { lease = pos 100 })), to 1 (says.Leased 2 1 100))
    ∷ (asks 1 3 (ask.Take (record (for_job 5) { timeout = pos 100 })), [])
    ∷ (asks 1 4 (ask.Txn (pos 100)), to 1 (says.Leased 4 3 100))
    ∷ (asks 1 5 (ask.Take (record (for_job 5) { timeout = pos 1000; txn = Some (pos 3) })), [])
    ∷ (asks 1 6 (ask.Notify (record (on_jobs (codes "h")) { lease = pos 100; space = codes "b" })), to 1 (says.Leased 6 5 100))
    ∷ (asks 1 7 (ask.Write (record (one_job 1) { lease = pos 100 })), to 1 (says.Leased 7 6 100))
    ∷ (step.Clock 100, [])
    ∷ (ends rank.Entry 6 100, [])
    ∷ (ends rank.Registration 5 100, [])
    ∷ (ends rank.Transaction 3 100, to 1 (says.Refused (Some 5) refusals.LeftActive))
    ∷ (ends rank.Blocked 2 100, to 1 (says.Nothing 3))
    ∷ (ends rank.MatchSet 1 100, [])
    ∷ []

pub entry_registration_transaction_request_and_match_set_end_in_this_order : Goes all_due_at_once
unfolding refusal is_quiet due touches said is_legal next
entry_registration_transaction_request_and_match_set_end_in_this_order = refl

pub not_the_match_set_first : FailsAt 10 (instead 10 (ends rank.MatchSet 1 100) all_due_at_once)
unfolding refusal is_quiet due touches said is_legal next
not_the_match_set_first = refl

pub not_the_registration_before_the_entry : FailsAt 10 (instead 10 (ends rank.Registration 5 100) all_due_at_once)
unfolding refusal is_quiet due touches said is_legal next
not_the_registration_before_the_entry = refl

pub not_the_transaction_before_the_registration : FailsAt 11 (instead 11 (ends rank.Transaction 3 100) all_due_at_once)
unfolding refusal is_quiet due touches said is_legal next
not_the_transaction_before_the_registration = refl

pub not_the_request_before_the_transaction : FailsAt 12 (instead 12 (ends rank.Blocked 2 100) all_due_at_once)
unfolding refusal is_quiet due touches said is_legal next
not_the_request_before_the_transaction = refl

pub not_the_match_set_before_the_request : FailsAt 13 (instead 13 (ends rank.MatchSet 1 100) all_due_at_once)
unfolding refusal is_quiet due touches said is_legal next
not_the_match_set_before_the_request = refl

pub not_by_another_rank : FailsAt 13 (instead 13 (ends rank.Entry 2 100) all_due_at_once)
unfolding refusal is_quiet due touches said is_legal next
not_by_another_rank = refl

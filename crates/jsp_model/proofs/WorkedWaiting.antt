-- Worked runs of requests that wait: for a row, for the end of a conflict, and until their time is up.
use Rattle.std.specs.Prelude.{refl, ℕ, pos, negsuc, true, List, [], ◌∷◌, ◌++◌, map, Some, codes}
use Rattle.std.specs.List.{range_with_len}
use Rattle.jsp_wire.specs.declared.ask.Ask.TheVariants as ask
use Rattle.jsp_reply.specs.declared.refusal.Refusal.TheVariants as refusals
use Rattle.jsp_reply.specs.declared.reply.Reply.TheVariants as says
use Rattle.jsp_reply.specs.declared.reply.LeaseOutcome.TheVariants as outcome
use Rattle.jsp_lease.specs.declared.item.Rank.TheVariants as rank
use Rattle.jsp_model.specs.declared.step.Step.TheVariants as step
use Rattle.jsp_model.specs.Quiet.{is_quiet}
use Rattle.jsp_model.specs.Due.{due}
use Rattle.jsp_model.specs.Touches.{touches}
use Rattle.jsp_model.specs.Refusals.{refusal}
use Rattle.jsp_model.specs.Answers.{said}
use Rattle.jsp_model.specs.Steps.{is_legal, next}
use Rattle.jsp_model.proofs.WorkedParts.{Line, Goes, FailsAt, instead, before, asks, gets, to, ends, job, declare_job, one_job, for_job}

-- so many takes, from this id on, that wait
abbrev waiting_takes : ℕ → ℕ → List Line
waiting_takes id count = map (λ i. (asks 1 i (ask.Take (record (for_job 1) { timeout = pos 1000 })), [])) (range_with_len id count)

-- ---- a waiting request is granted at the write

abbrev take_waits : List Line
take_waits =
    (step.Open 1, [])
    ∷ (asks 1 1 declare_job, to 1 (says.Done 1))
    ∷ (step.Open 2, [])
    ∷ (asks 1 7 (ask.Take (record (for_job 1) { timeout = pos 1000 })), [])
    ∷ (asks 1 7 ask.Spaces, to 1 (says.Refused (Some 7) refusals.IdInUse))
    ∷ (asks 2 1 (ask.Write (one_job 1)), to 2 (says.Leased 1 2 1000))
    ∷ (step.Grant 1 (2 ∷ []), to 1 (says.Shown 7 (job 1)))
    ∷ []

pub waiting_take_is_granted_at_the_write : Goes take_waits
unfolding refusal is_quiet due touches said is_legal next
waiting_take_is_granted_at_the_write = refl

pub not_left_waiting_while_its_entry_is_there : FailsAt 6 (instead 6 (asks 2 2 (ask.Read (for_job 1))) take_waits)
unfolding refusal is_quiet due touches said is_legal next
not_left_waiting_while_its_entry_is_there = refl

pub not_granted_before_the_write : FailsAt 5 (before 5 (step.Grant 1 (2 ∷ [])) take_waits)
unfolding refusal is_quiet due touches said is_legal next
not_granted_before_the_write = refl

pub not_granted_twice : FailsAt 7 (before 7 (step.Grant 1 (2 ∷ [])) take_waits)
unfolding refusal is_quiet due touches said is_legal next
not_granted_twice = refl

pub not_granted_another_row : FailsAt 6 (instead 6 (step.Grant 1 (1 ∷ [])) take_waits)
unfolding refusal is_quiet due touches said is_legal next
not_granted_another_row = refl

pub not_granted_nothing : FailsAt 6 (instead 6 (step.Grant 1 []) take_waits)
unfolding refusal is_quiet due touches said is_legal next
not_granted_nothing = refl

pub not_given_a_row_as_it_waits : FailsAt 3 (instead 3 (gets 1 7 (ask.Take (record (for_job 1) { timeout = pos 1000 })) (1 ∷ [])) take_waits)
unfolding refusal is_quiet due touches said is_legal next
not_given_a_row_as_it_waits = refl

abbrev two_takes_wait : List Line
two_takes_wait =
    (step.Open 1, [])
    ∷ (asks 1 1 declare_job, to 1 (says.Done 1))
    ∷ (asks 1 2 (ask.Take (record (for_job 1) { timeout = pos 1000 })), [])
    ∷ (asks 1 3 (ask.Take (record (for_job 1) { timeout = pos 1000 })), [])
    ∷ (asks 1 4 (ask.Write (one_job 1)), to 1 (says.Leased 4 3 1000))
    ∷ (step.Grant 2 (3 ∷ []), to 1 (says.Shown 3 (job 1)))
    ∷ (asks 1 5 (ask.Write (one_job 1)), to 1 (says.Leased 5 4 1000))
    ∷ (step.Grant 1 (4 ∷ []), to 1 (says.Shown 2 (job 1)))
    ∷ []

pub one_entry_wakes_one_take : Goes two_takes_wait
unfolding refusal is_quiet due touches said is_legal next
one_entry_wakes_one_take = refl

pub not_one_entry_for_two_takes : FailsAt 6 (instead 6 (step.Grant 1 (3 ∷ [])) two_takes_wait)
unfolding refusal is_quiet due touches said is_legal next
not_one_entry_for_two_takes = refl

pub not_written_over_one_that_is_owed : FailsAt 5 (instead 5 (asks 1 5 (ask.Write (one_job 1))) two_takes_wait)
unfolding refusal is_quiet due touches said is_legal next
not_written_over_one_that_is_owed = refl

abbrev read_and_take_wait : List Line
read_and_take_wait =
    (step.Open 1, [])
    ∷ (asks 1 1 declare_job, to 1 (says.Done 1))
    ∷ (asks 1 2 (ask.Take (record (for_job 1) { timeout = pos 1000 })), [])
    ∷ (asks 1 3 (ask.Read (record (for_job 1) { timeout = pos 1000 })), [])
    ∷ (asks 1 4 (ask.Write (one_job 1)), to 1 (says.Leased 4 3 1000))
    ∷ (step.Grant 2 (3 ∷ []), to 1 (says.Shown 3 (job 1)))
    ∷ (step.Grant 1 (3 ∷ []), to 1 (says.Shown 2 (job 1)))
    ∷ []

pub one_entry_is_read_and_taken : Goes read_and_take_wait
unfolding refusal is_quiet due touches said is_legal next
one_entry_is_read_and_taken = refl

pub not_read_once_it_is_taken : FailsAt 6 (before 5 (step.Grant 1 (3 ∷ [])) read_and_take_wait)
unfolding refusal is_quiet due touches said is_legal next
not_read_once_it_is_taken = refl

abbrev wait_in_b : List Line
wait_in_b =
    (step.Open 1, [])
    ∷ (asks 1 1 declare_job, to 1 (says.Done 1))
    ∷ (asks 1 2 (ask.Take (record (for_job 1) { timeout = pos 1000; space = codes "b" })), [])
    ∷ (asks 1 3 (ask.Write (one_job 1)), to 1 (says.Leased 3 2 1000))
    ∷ (gets 1 4 (ask.Read (for_job 1)) (2 ∷ []), to 1 (says.Shown 4 (job 1)))
    ∷ (asks 1 5 (ask.Write (record (one_job 1) { space = codes "b" })), to 1 (says.Leased 5 3 1000))
    ∷ (step.Grant 1 (3 ∷ []), to 1 (says.Shown 2 (job 1)))
    ∷ []

pub write_wakes_nobody_in_another_space : Goes wait_in_b
unfolding refusal is_quiet due touches said is_legal next
write_wakes_nobody_in_another_space = refl

pub not_granted_a_row_of_another_space : FailsAt 4 (instead 4 (step.Grant 1 (2 ∷ [])) wait_in_b)
unfolding refusal is_quiet due touches said is_legal next
not_granted_a_row_of_another_space = refl

-- ---- its time is up

abbrev read_waits : List Line
read_waits =
    (step.Open 1, [])
    ∷ (asks 1 1 declare_job, to 1 (says.Done 1))
    ∷ (asks 1 2 (ask.Read (record (for_job 1) { timeout = pos 50 })), [])
    ∷ (step.Clock 49, [])
    ∷ (step.Clock 50, [])
    ∷ (ends rank.Blocked 1 50, to 1 (says.Nothing 2))
    ∷ (asks 1 3 (ask.Read (record (for_job 1) { timeout = negsuc 0 })), to 1 (says.Refused (Some 3) refusals.BadTimeout))
    ∷ (asks 1 4 (ask.ReadIf (record (for_job 1) { timeout = pos 50 })), to 1 (says.Nothing 4))
    ∷ []

pub waiting_read_times_out : Goes read_waits
unfolding refusal is_quiet due touches said is_legal next
waiting_read_times_out = refl

pub not_timed_out_before_its_time : FailsAt 4 (instead 4 (ends rank.Blocked 1 50) read_waits)
unfolding refusal is_quiet due touches said is_legal next
not_timed_out_before_its_time = refl

pub not_asked_before_it_timed_out : FailsAt 5 (instead 5 (asks 1 3 ask.Spaces) read_waits)
unfolding refusal is_quiet due touches said is_legal next
not_asked_before_it_timed_out = refl

pub not_ended_as_one_that_waits_for_a_conflict : FailsAt 5 (instead 5 (step.Empty 1) read_waits)
unfolding refusal is_quiet due touches said is_legal next
not_ended_as_one_that_waits_for_a_conflict = refl

pub not_timed_out_twice : FailsAt 6 (before 6 (ends rank.Blocked 1 50) read_waits)
unfolding refusal is_quiet due touches said is_legal next
not_timed_out_twice = refl

abbrev found_as_time_is_up : List Line
found_as_time_is_up =
    (step.Open 1, [])
    ∷ (asks 1 1 declare_job, to 1 (says.Done 1))
    ∷ (asks 1 2 (ask.Take (record (for_job 1) { timeout = pos 50 })), [])
    ∷ (asks 1 3 (ask.Write (one_job 1)), to 1 (says.Leased 3 2 1000))
    ∷ (step.Clock 50, [])
    ∷ (step.Grant 1 (2 ∷ []), to 1 (says.Shown 2 (job 1)))
    ∷ []

pub entry_that_comes_as_the_time_is_up_is_granted : Goes found_as_time_is_up
unfolding refusal is_quiet due touches said is_legal next
entry_that_comes_as_the_time_is_up_is_granted = refl

pub not_timed_out_while_its_entry_is_there : FailsAt 5 (instead 5 (ends rank.Blocked 1 50) found_as_time_is_up)
unfolding refusal is_quiet due touches said is_legal next
not_timed_out_while_its_entry_is_there = refl

abbrev waits_past_the_limit : List Line
waits_past_the_limit =
    (step.Open 1, [])
    ∷ (asks 1 1 declare_job, to 1 (says.Done 1))
    ∷ (asks 1 2 (ask.Take (record (for_job 1) { timeout = pos 9223372036854775807 })), [])
    ∷ (step.Clock 18446744073709551615, [])
    ∷ (asks 1 3 (ask.Take (record (for_job 2) { timeout = pos 1 })), [])
    ∷ (step.Clock 18446744073709551615, [])
    ∷ (asks 1 4 (ask.Write (one_job 2)), to 1 (says.Leased 4 3 1000))
    ∷ (step.Grant 2 (3 ∷ []), to 1 (says.Shown 3 (job 2)))
    ∷ []

pub request_that_waits_past_the_limit_of_time_never_ends : Goes waits_past_the_limit
unfolding refusal is_quiet due touches said is_legal next
request_that_waits_past_the_limit_of_time_never_ends = refl

pub not_timed_out_at_the_limit_of_time : FailsAt 4 (before 4 (ends rank.Blocked 1 4611686018427387904) waits_past_the_limit)
unfolding refusal is_quiet due touches said is_legal next
not_timed_out_at_the_limit_of_time = refl

pub not_timed_out_past_the_limit_of_time : FailsAt 6 (before 6 (ends rank.Blocked 2 4611686018427387905) waits_past_the_limit)
unfolding refusal is_quiet due touches said is_legal next
not_timed_out_past_the_limit_of_time = refl

-- ---- too many wait

abbrev many_takes_wait : List Line
many_takes_wait =
    (step.Open 1, [])
    ∷ (asks 1 1 declare_job, to 1 (says.Done 1))
    ∷ waiting_takes 2 64
    ++ (asks 1 66 (ask.Take (record (for_job 1) { timeout = pos 1000 })), to 1 (says.Refused (Some 66) refusals.TooManyWaiting))
    ∷ (asks 1 67 (ask.Take (for_job 1)), to 1 (says.Nothing 67))
    ∷ (asks 1 68 (ask.Write (one_job 1)), to 1 (says.Leased 68 65 1000))
    ∷ (step.Grant 1 (65 ∷ []), to 1 (says.Shown 2 (job 1)))
    ∷ []

pub no_more_than_64_requests_wait : Goes many_takes_wait
unfolding refusal is_quiet due touches said is_legal next
no_more_than_64_requests_wait = refl

pub not_granted_to_a_refused_request : FailsAt 69 (instead 69 (step.Grant 65 (65 ∷ [])) many_takes_wait)
unfolding refusal is_quiet due touches said is_legal next
not_granted_to_a_refused_request = refl

pub not_left_waiting_by_64 : FailsAt 69 (instead 69 (asks 1 69 (ask.Read (for_job 1))) many_takes_wait)
unfolding refusal is_quiet due touches said is_legal next
not_left_waiting_by_64 = refl

abbrev another_takes_first : List Line
another_takes_first =
    (step.Open 1, [])
    ∷ (asks 1 1 declare_job, to 1 (says.Done 1))
    ∷ waiting_takes 2 64
    ++ (asks 1 68 (ask.Write (one_job 1)), to 1 (says.Leased 68 65 1000))
    ∷ (step.Grant 64 (65 ∷ []), to 1 (says.Shown 65 (job 1)))
    ∷ []

pub any_of_the_waiting_requests_may_be_granted : Goes another_takes_first
unfolding refusal is_quiet due touches said is_legal next
any_of_the_waiting_requests_may_be_granted = refl

pub not_granted_to_all_of_them : FailsAt 68 (before 68 (step.Grant 1 (65 ∷ [])) another_takes_first)
unfolding refusal is_quiet due touches said is_legal next
not_granted_to_all_of_them = refl

abbrev commit_beside_many_takes : List Line
commit_beside_many_takes =
    (step.Open 1, [])
    ∷ (asks 1 1 declare_job, to 1 (says.Done 1))
    ∷ (asks 1 100 (ask.Txn (pos 1000)), to 1 (says.Leased 100 1 1000))
    ∷ waiting_takes 2 63
    ++ (asks 1 65 (ask.Commit (pos 1)), [])
    ∷ (asks 1 66 (ask.Take (record (for_job 1) { timeout = pos 1000 })), to 1 (says.Refused (Some 66) refusals.TooManyWaiting))
    ∷ (asks 1 67 (ask.Txn (pos 1000)), to 1 (says.Leased 67 65 1000))
    ∷ (asks 1 68 (ask.Commit (pos 65)), to 1 (says.Refused (Some 68) refusals.TooManyWaiting))
    ∷ (step.Decide 1 true, to 1 (says.Done 65))
    ∷ (asks 1 69 (ask.Commit (pos 65)), [])
    ∷ []

pub commit_waits_as_other_requests_do : Goes commit_beside_many_takes
unfolding refusal is_quiet due touches said is_legal next
commit_waits_as_other_requests_do = refl

pub not_decided_when_its_commit_is_refused : FailsAt 70 (before 70 (step.Decide 65 true) commit_beside_many_takes)
unfolding refusal is_quiet due touches said is_legal next
not_decided_when_its_commit_is_refused = refl

-- ---- a request that waits only for a conflict

abbrev read_by_another : List Line
read_by_another =
    (step.Open 1, [])
    ∷ (asks 1 1 declare_job, to 1 (says.Done 1))
    ∷ (step.Open 2, [])
    ∷ (asks 1 2 (ask.Write (one_job 1)), to 1 (says.Leased 2 1 1000))
    ∷ (asks 1 3 (ask.Txn (pos 1000)), to 1 (says.Leased 3 2 1000))
    ∷ (gets 1 4 (ask.Read (record (for_job 1) { txn = Some (pos 2) })) (1 ∷ []), to 1 (says.Shown 4 (job 1)))
    ∷ (asks 2 1 (ask.TakeIf (record (for_job 1) { timeout = pos 100 })), [])
    ∷ (gets 2 2 (ask.Read (for_job 1)) (1 ∷ []), to 2 (says.Shown 2 (job 1)))
    ∷ (asks 1 5 (ask.Abort (pos 2)), to 1 (says.Done 5))
    ∷ (step.Grant 3 (1 ∷ []), to 2 (says.Shown 1 (job 1)))
    ∷ (asks 1 6 (ask.Txn (pos 1000)), to 1 (says.Leased 6 4 1000))
    ∷ (asks 1 7 (ask.Write (record (one_job 2) { txn = Some (pos 4) })), to 1 (says.Leased 7 5 1000))
    ∷ (asks 2 3 (ask.TakeIf (record (for_job 2) { timeout = pos 100 })), to 2 (says.Nothing 3))
    ∷ []

pub take_waits_for_the_end_of_a_read_but_not_for_a_hidden_write : Goes read_by_another
unfolding refusal is_quiet due touches said is_legal next
take_waits_for_the_end_of_a_read_but_not_for_a_hidden_write = refl

pub not_taken_while_another_has_read_it : FailsAt 6 (instead 6 (gets 2 1 (ask.Take (for_job 1)) (1 ∷ [])) read_by_another)
unfolding refusal is_quiet due touches said is_legal next
not_taken_while_another_has_read_it = refl

pub not_granted_before_the_reader_has_ended : FailsAt 8 (before 8 (step.Grant 3 (1 ∷ [])) read_by_another)
unfolding refusal is_quiet due touches said is_legal next
not_granted_before_the_reader_has_ended = refl

pub not_ended_while_there_is_a_conflict : FailsAt 8 (before 8 (step.Empty 3) read_by_another)
unfolding refusal is_quiet due touches said is_legal next
not_ended_while_there_is_a_conflict = refl

pub not_ended_while_its_entry_is_there : FailsAt 9 (instead 9 (step.Empty 3) read_by_another)
unfolding refusal is_quiet due touches said is_legal next
not_ended_while_its_entry_is_there = refl

pub not_a_hidden_row : FailsAt 12 (instead 12 (gets 2 3 (ask.TakeIf (record (for_job 2) { timeout = pos 100 })) (5 ∷ [])) read_by_another)
unfolding refusal is_quiet due touches said is_legal next
not_a_hidden_row = refl

abbrev taken_by_another : List Line
taken_by_another =
    (step.Open 1, [])
    ∷ (asks 1 1 declare_job, to 1 (says.Done 1))
    ∷ (step.Open 2, [])
    ∷ (asks 1 2 (ask.Write (one_job 1)), to 1 (says.Leased 2 1 1000))
    ∷ (asks 1 3 (ask.Txn (pos 1000)), to 1 (says.Leased 3 2 1000))
    ∷ (gets 1 4 (ask.Take (record (for_job 1) { txn = Some (pos 2) })) (1 ∷ []), to 1 (says.Shown 4 (job 1)))
    ∷ (asks 2 1 (ask.TakeIf (record (for_job 1) { timeout = pos 100 })), [])
    ∷ (asks 1 5 (ask.Commit (pos 2)), [])
    ∷ (step.Vote 2 0, [])
    ∷ (step.Decide 2 true, to 1 (says.Done 5))
    ∷ (step.Empty 3, to 2 (says.Nothing 1))
    ∷ []

pub request_for_a_conflict_ends_with_the_conflict : Goes taken_by_another
unfolding refusal is_quiet due touches said is_legal next
request_for_a_conflict_ends_with_the_conflict = refl

pub not_ended_before_the_decision : FailsAt 9 (before 9 (step.Empty 3) taken_by_another)
unfolding refusal is_quiet due touches said is_legal next
not_ended_before_the_decision = refl

pub not_granted_what_was_taken : FailsAt 10 (instead 10 (step.Grant 3 (1 ∷ [])) taken_by_another)
unfolding refusal is_quiet due touches said is_legal next
not_granted_what_was_taken = refl

pub not_left_waiting_without_a_conflict : FailsAt 10 (instead 10 (asks 2 2 (ask.Read (for_job 1))) taken_by_another)
unfolding refusal is_quiet due touches said is_legal next
not_left_waiting_without_a_conflict = refl

pub not_ended_twice_without_a_conflict : FailsAt 11 (before 11 (step.Empty 3) taken_by_another)
unfolding refusal is_quiet due touches said is_legal next
not_ended_twice_without_a_conflict = refl

abbrev read_if_taken_by_another : List Line
read_if_taken_by_another =
    (step.Open 1, [])
    ∷ (asks 1 1 declare_job, to 1 (says.Done 1))
    ∷ (asks 1 2 (ask.Write (one_job 1)), to 1 (says.Leased 2 1 1000))
    ∷ (asks 1 3 (ask.Txn (pos 1000)), to 1 (says.Leased 3 2 1000))
    ∷ (gets 1 4 (ask.Read (record (for_job 1) { txn = Some (pos 2) })) (1 ∷ []), to 1 (says.Shown 4 (job 1)))
    ∷ (gets 1 5 (ask.ReadIf (record (for_job 1) { timeout = pos 100 })) (1 ∷ []), to 1 (says.Shown 5 (job 1)))
    ∷ (gets 1 6 (ask.Take (record (for_job 1) { txn = Some (pos 2) })) (1 ∷ []), to 1 (says.Shown 6 (job 1)))
    ∷ (asks 1 7 (ask.ReadIf (record (for_job 1) { timeout = pos 100 })), [])
    ∷ (asks 1 8 (ask.Read (for_job 1)), to 1 (says.Nothing 8))
    ∷ (asks 1 9 (ask.Abort (pos 2)), to 1 (says.Done 9))
    ∷ (step.Grant 3 (1 ∷ []), to 1 (says.Shown 7 (job 1)))
    ∷ []

pub read_if_it_exists_waits_for_one_that_another_took : Goes read_if_taken_by_another
unfolding refusal is_quiet due touches said is_legal next
read_if_it_exists_waits_for_one_that_another_took = refl

pub not_waiting_for_one_that_another_only_read : FailsAt 5 (instead 5 (asks 1 5 (ask.ReadIf (record (for_job 1) { timeout = pos 100 }))) read_if_taken_by_another)
unfolding refusal is_quiet due touches said is_legal next
not_waiting_for_one_that_another_only_read = refl

pub not_read_while_another_has_taken_it : FailsAt 8 (instead 8 (gets 1 8 (ask.Read (for_job 1)) (1 ∷ [])) read_if_taken_by_another)
unfolding refusal is_quiet due touches said is_legal next
not_read_while_another_has_taken_it = refl

abbrev conflict_outlives_the_request : List Line
conflict_outlives_the_request =
    (step.Open 1, [])
    ∷ (asks 1 1 declare_job, to 1 (says.Done 1))
    ∷ (asks 1 2 (ask.Write (one_job 1)), to 1 (says.Leased 2 1 1000))
    ∷ (asks 1 3 (ask.Txn (pos 1000)), to 1 (says.Leased 3 2 1000))
    ∷ (gets 1 4 (ask.Take (record (for_job 1) { txn = Some (pos 2) })) (1 ∷ []), to 1 (says.Shown 4 (job 1)))
    ∷ (asks 1 5 (ask.TakeIf (record (for_job 1) { timeout = pos 100 })), [])
    ∷ (asks 1 6 (ask.TakeIf (for_job 1)), to 1 (says.Nothing 6))
    ∷ (step.Clock 100, [])
    ∷ (ends rank.Blocked 3 100, to 1 (says.Nothing 5))
    ∷ []

pub request_for_a_conflict_times_out : Goes conflict_outlives_the_request
unfolding refusal is_quiet due touches said is_legal next
request_for_a_conflict_times_out = refl

pub not_by_the_end_of_the_conflict : FailsAt 8 (instead 8 (step.Empty 3) conflict_outlives_the_request)
unfolding refusal is_quiet due touches said is_legal next
not_by_the_end_of_the_conflict = refl

abbrev held_by_a_batch : List Line
held_by_a_batch =
    (step.Open 1, [])
    ∷ (asks 1 1 declare_job, to 1 (says.Done 1))
    ∷ (asks 1 2 (ask.Write (one_job 1)), to 1 (says.Leased 2 1 1000))
    ∷ (asks 1 3 (ask.Txn (pos 1000)), to 1 (says.Leased 3 2 1000))
    ∷ (gets 1 4 (ask.Take (record (for_job 1) { txn = Some (pos 2) })) (1 ∷ []), to 1 (says.Shown 4 (job 1)))
    ∷ (asks 1 5 (ask.Take (record (for_job 1) { timeout = pos 1000 })), [])
    ∷ (asks 1 6 (ask.CancelAll (pos 2 ∷ pos 1 ∷ [])), to 1 (says.Leases 6 (record { lease = pos 2; outcome = outcome.Cancelled } ∷ record { lease = pos 1; outcome = outcome.Cancelled } ∷ [])))
    ∷ (asks 1 7 (ask.Read (for_job 1)), to 1 (says.Nothing 7))
    ∷ []

pub nothing_is_granted_between_the_leases_of_a_batch : Goes held_by_a_batch
unfolding refusal is_quiet due touches said is_legal next
nothing_is_granted_between_the_leases_of_a_batch = refl

pub not_granted_within_a_batch : FailsAt 7 (before 7 (step.Grant 3 (1 ∷ [])) held_by_a_batch)
unfolding refusal is_quiet due touches said is_legal next
not_granted_within_a_batch = refl

-- ---- a request that waits under a transaction

abbrev waits_under_a_transaction : List Line
waits_under_a_transaction =
    (step.Open 1, [])
    ∷ (step.Open 2, [])
    ∷ (asks 1 1 declare_job, to 1 (says.Done 1))
    ∷ (asks 1 2 (ask.Txn (pos 1000)), to 1 (says.Leased 2 1 1000))
    ∷ (asks 2 1 (ask.Take (record (for_job 1) { timeout = pos 1000; txn = Some (pos 1) })), [])
    ∷ (asks 2 2 (ask.Take (record (for_job 1) { timeout = pos 1000 })), [])
    ∷ (asks 1 3 (ask.Write (record (one_job 1) { txn = Some (pos 1) })), to 1 (says.Leased 3 4 1000))
    ∷ (step.Grant 2 (4 ∷ []), to 2 (says.Shown 1 (job 1)))
    ∷ (asks 1 4 (ask.Read (record (for_job 1) { txn = Some (pos 1) })), to 1 (says.Nothing 4))
    ∷ []

pub hidden_write_wakes_a_request_of_its_own_transaction : Goes waits_under_a_transaction
unfolding refusal is_quiet due touches said is_legal next
hidden_write_wakes_a_request_of_its_own_transaction = refl

pub not_granted_a_hidden_row : FailsAt 7 (instead 7 (step.Grant 3 (4 ∷ [])) waits_under_a_transaction)
unfolding refusal is_quiet due touches said is_legal next
not_granted_a_hidden_row = refl

pub not_seen_by_the_one_that_took_it : FailsAt 8 (instead 8 (gets 1 4 (ask.Read (record (for_job 1) { txn = Some (pos 1) })) (4 ∷ [])) waits_under_a_transaction)
unfolding refusal is_quiet due touches said is_legal next
not_seen_by_the_one_that_took_it = refl

-- Worked runs of version 2: entries written and taken together, and match sets.
use Rattle.std.specs.Prelude.{refl, pos, negsuc, true, false, List, [], ◌∷◌, Some, None, codes}
use Rattle.jsp_wire.specs.declared.ask.Ask.TheVariants as ask
use Rattle.jsp_wire.specs.declared.ask.Version.TheVariants as version
use Rattle.jsp_reply.specs.declared.refusal.Refusal.TheVariants as refusals
use Rattle.jsp_reply.specs.declared.reply.Reply.TheVariants as says
use Rattle.jsp_lease.specs.declared.item.Rank.TheVariants as rank
use Rattle.jsp_model.specs.declared.step.Step.TheVariants as step
use Rattle.jsp_model.specs.Quiet.{is_quiet}
use Rattle.jsp_model.specs.Due.{due}
use Rattle.jsp_model.specs.Touches.{touches}
use Rattle.jsp_model.specs.Refusals.{refusal}
use Rattle.jsp_model.specs.Answers.{said}
use Rattle.jsp_model.specs.Steps.{is_legal, next}
use Rattle.jsp_model.proofs.WorkedParts.{Line, Goes, FailsAt, instead, before, without, asks, gets, to, ends, raw_job, job, undeclared, with_a_field_too_many, declare_job, one_job, for_job, on_jobs, all_jobs, jobs, for_jobs}

-- ---- entries written and taken together

abbrev together : List Line
together =
    (step.Open 1, [])
    ∷ (step.Fault 1 (Some 1) refusals.BadRequest, to 1 (says.Refused (Some 1) refusals.BadRequest))
    ∷ (asks 1 1 (ask.Hello version.Two), to 1 (says.Done 1))
    ∷ (asks 1 2 declare_job, to 1 (says.Done 2))
    ∷ (asks 1 3 (ask.WriteAll (jobs (1 ∷ 2 ∷ []))), to 1 (says.Batch 3 (1 ∷ 2 ∷ []) 1000))
    ∷ (gets 1 4 (ask.TakeMany (for_jobs (1 ∷ 2 ∷ 2 ∷ []) 16)) (1 ∷ 2 ∷ []), to 1 (says.Many 4 (job 1 ∷ job 2 ∷ [])))
    ∷ (asks 1 5 (ask.TakeMany (for_jobs (1 ∷ 2 ∷ 2 ∷ []) 16)), to 1 (says.Nothing 5))
    ∷ []

pub entries_are_written_and_taken_together : Goes together
unfolding refusal is_quiet due touches said is_legal next
entries_are_written_and_taken_together = refl

pub not_one_row_twice : FailsAt 5 (instead 5 (gets 1 4 (ask.TakeMany (for_jobs (1 ∷ 2 ∷ 2 ∷ []) 16)) (1 ∷ 1 ∷ [])) together)
unfolding refusal is_quiet due touches said is_legal next
not_one_row_twice = refl

pub not_one_row_for_each_template : FailsAt 5 (instead 5 (gets 1 4 (ask.TakeMany (for_jobs (1 ∷ 2 ∷ 2 ∷ []) 16)) (1 ∷ 2 ∷ 2 ∷ [])) together)
unfolding refusal is_quiet due touches said is_legal next
not_one_row_for_each_template = refl

pub not_fewer_than_there_are : FailsAt 5 (instead 5 (gets 1 4 (ask.TakeMany (for_jobs (1 ∷ 2 ∷ 2 ∷ []) 16)) (1 ∷ [])) together)
unfolding refusal is_quiet due touches said is_legal next
not_fewer_than_there_are = refl

pub not_none_of_them : FailsAt 5 (instead 5 (asks 1 4 (ask.TakeMany (for_jobs (1 ∷ 2 ∷ 2 ∷ []) 16))) together)
unfolding refusal is_quiet due touches said is_legal next
not_none_of_them = refl

pub not_in_falling_order : FailsAt 5 (instead 5 (gets 1 4 (ask.TakeMany (for_jobs (1 ∷ 2 ∷ 2 ∷ []) 16)) (2 ∷ 1 ∷ [])) together)
unfolding refusal is_quiet due touches said is_legal next
not_in_falling_order = refl

pub not_taken_together_again : FailsAt 6 (instead 6 (gets 1 5 (ask.TakeMany (for_jobs (1 ∷ 2 ∷ 2 ∷ []) 16)) (1 ∷ 2 ∷ [])) together)
unfolding refusal is_quiet due touches said is_legal next
not_taken_together_again = refl

abbrev at_most_two : List Line
at_most_two =
    (step.Open 1, [])
    ∷ (asks 1 1 (ask.Hello version.Two), to 1 (says.Done 1))
    ∷ (asks 1 2 declare_job, to 1 (says.Done 2))
    ∷ (asks 1 3 (ask.WriteAll (jobs (1 ∷ 2 ∷ 1 ∷ 2 ∷ []))), to 1 (says.Batch 3 (1 ∷ 2 ∷ 3 ∷ 4 ∷ []) 1000))
    ∷ (gets 1 4 (ask.TakeMany (for_jobs (1 ∷ 2 ∷ []) 2)) (1 ∷ 4 ∷ []), to 1 (says.Many 4 (job 1 ∷ job 2 ∷ [])))
    ∷ (gets 1 5 (ask.TakeMany (for_jobs (2 ∷ []) 2)) (2 ∷ []), to 1 (says.Many 5 (job 2 ∷ [])))
    ∷ (gets 1 6 (ask.Take (for_job 1)) (3 ∷ []), to 1 (says.Shown 6 (job 1)))
    ∷ []

pub no_more_are_taken_together_than_were_asked_for : Goes at_most_two
unfolding refusal is_quiet due touches said is_legal next
no_more_are_taken_together_than_were_asked_for = refl

pub not_more_than_were_asked_for : FailsAt 4 (instead 4 (gets 1 4 (ask.TakeMany (for_jobs (1 ∷ 2 ∷ []) 2)) (1 ∷ 2 ∷ 3 ∷ [])) at_most_two)
unfolding refusal is_quiet due touches said is_legal next
not_more_than_were_asked_for = refl

pub not_fewer_than_were_asked_for : FailsAt 4 (instead 4 (gets 1 4 (ask.TakeMany (for_jobs (1 ∷ 2 ∷ []) 2)) (1 ∷ [])) at_most_two)
unfolding refusal is_quiet due touches said is_legal next
not_fewer_than_were_asked_for = refl

pub not_one_that_no_template_matches : FailsAt 5 (instead 5 (gets 1 5 (ask.TakeMany (for_jobs (2 ∷ []) 2)) (2 ∷ 3 ∷ [])) at_most_two)
unfolding refusal is_quiet due touches said is_legal next
not_one_that_no_template_matches = refl

abbrev many_wait : List Line
many_wait =
    (step.Open 1, [])
    ∷ (asks 1 1 (ask.Hello version.Two), to 1 (says.Done 1))
    ∷ (asks 1 2 declare_job, to 1 (says.Done 2))
    ∷ (step.Open 2, [])
    ∷ (asks 1 3 (ask.TakeMany (record (for_jobs (1 ∷ []) 2) { timeout = pos 1000 })), [])
    ∷ (asks 2 1 (ask.Write (one_job 1)), to 2 (says.Leased 1 2 1000))
    ∷ (step.Grant 1 (2 ∷ []), to 1 (says.Many 3 (job 1 ∷ [])))
    ∷ []

pub waiting_take_of_many_is_granted_at_the_write : Goes many_wait
unfolding refusal is_quiet due touches said is_legal next
waiting_take_of_many_is_granted_at_the_write = refl

pub not_waiting_for_as_many_as_were_asked_for : FailsAt 6 (instead 6 (asks 2 2 (ask.Read (for_job 1))) many_wait)
unfolding refusal is_quiet due touches said is_legal next
not_waiting_for_as_many_as_were_asked_for = refl

pub not_granted_none : FailsAt 6 (instead 6 (step.Grant 1 []) many_wait)
unfolding refusal is_quiet due touches said is_legal next
not_granted_none = refl

abbrev many_wait_for_two : List Line
many_wait_for_two =
    (step.Open 1, [])
    ∷ (asks 1 1 (ask.Hello version.Two), to 1 (says.Done 1))
    ∷ (asks 1 2 declare_job, to 1 (says.Done 2))
    ∷ (asks 1 3 (ask.TakeMany (record (for_jobs (1 ∷ 2 ∷ []) 3) { timeout = pos 1000 })), [])
    ∷ (asks 1 4 (ask.WriteAll (jobs (1 ∷ 3 ∷ 2 ∷ []))), to 1 (says.Batch 4 (2 ∷ 3 ∷ 4 ∷ []) 1000))
    ∷ (step.Grant 1 (2 ∷ 4 ∷ []), to 1 (says.Many 3 (job 1 ∷ job 2 ∷ [])))
    ∷ []

pub waiting_take_of_many_is_granted_all_that_come_together : Goes many_wait_for_two
unfolding refusal is_quiet due touches said is_legal next
waiting_take_of_many_is_granted_all_that_come_together = refl

pub not_granted_one_of_two : FailsAt 5 (instead 5 (step.Grant 1 (2 ∷ [])) many_wait_for_two)
unfolding refusal is_quiet due touches said is_legal next
not_granted_one_of_two = refl

pub not_granted_what_isnt_asked_for : FailsAt 5 (instead 5 (step.Grant 1 (2 ∷ 3 ∷ 4 ∷ [])) many_wait_for_two)
unfolding refusal is_quiet due touches said is_legal next
not_granted_what_isnt_asked_for = refl

abbrev many_time_out : List Line
many_time_out =
    (step.Open 1, [])
    ∷ (asks 1 0 (ask.Hello version.Two), to 1 (says.Done 0))
    ∷ (asks 1 1 declare_job, to 1 (says.Done 1))
    ∷ (asks 1 2 (ask.TakeMany (record (for_jobs (1 ∷ []) 3) { timeout = pos 50 })), [])
    ∷ (step.Clock 50, [])
    ∷ (ends rank.Blocked 1 50, to 1 (says.Nothing 2))
    ∷ []

pub waiting_take_of_many_times_out : Goes many_time_out
unfolding refusal is_quiet due touches said is_legal next
waiting_take_of_many_times_out = refl

pub not_ended_as_one_for_a_conflict : FailsAt 5 (instead 5 (step.Empty 1) many_time_out)
unfolding refusal is_quiet due touches said is_legal next
not_ended_as_one_for_a_conflict = refl

abbrev all_or_none : List Line
all_or_none =
    (step.Open 1, [])
    ∷ (asks 1 0 (ask.Hello version.Two), to 1 (says.Done 0))
    ∷ (asks 1 1 declare_job, to 1 (says.Done 1))
    ∷ (asks 1 2 (ask.WriteAll (record (jobs []) { entries = raw_job 1 ∷ undeclared ∷ [] })), to 1 (says.Refused (Some 2) refusals.UnknownClass))
    ∷ (asks 1 3 (ask.WriteAll (record (jobs []) { entries = raw_job 1 ∷ with_a_field_too_many ∷ undeclared ∷ [] })), to 1 (says.Refused (Some 3) refusals.UnknownClass))
    ∷ (asks 1 4 (ask.WriteAll (record (jobs []) { entries = raw_job 1 ∷ with_a_field_too_many ∷ [] })), to 1 (says.Refused (Some 4) refusals.BadEntry))
    ∷ (asks 1 5 (ask.WriteAll (record (jobs (1 ∷ 2 ∷ [])) { lease = negsuc 1 })), to 1 (says.Refused (Some 5) refusals.BadLease))
    ∷ (asks 1 6 (ask.Read (for_job 1)), to 1 (says.Nothing 6))
    ∷ (asks 1 7 (ask.WriteAll (record (jobs (1 ∷ 2 ∷ [])) { lease = negsuc 0 })), to 1 (says.Batch 7 (1 ∷ 2 ∷ []) 60000))
    ∷ []

pub entries_are_written_together_or_not_at_all : Goes all_or_none
unfolding refusal is_quiet due touches said is_legal next
entries_are_written_together_or_not_at_all = refl

pub not_written_in_part : FailsAt 7 (instead 7 (gets 1 6 (ask.Read (for_job 1)) (1 ∷ [])) all_or_none)
unfolding refusal is_quiet due touches said is_legal next
not_written_in_part = refl

abbrev together_under_a_transaction : List Line
together_under_a_transaction =
    (step.Open 1, [])
    ∷ (asks 1 0 (ask.Hello version.Two), to 1 (says.Done 0))
    ∷ (step.Open 2, [])
    ∷ (asks 2 0 (ask.Hello version.Two), to 2 (says.Done 0))
    ∷ (asks 1 1 declare_job, to 1 (says.Done 1))
    ∷ (asks 2 1 (ask.Notify (on_jobs (codes "h"))), to 2 (says.Leased 1 1 5000))
    ∷ (asks 1 2 (ask.Txn (pos 1000)), to 1 (says.Leased 2 2 1000))
    ∷ (asks 1 3 (ask.WriteAll (record (jobs (1 ∷ 2 ∷ 3 ∷ [])) { txn = Some (pos 2) })), to 1 (says.Batch 3 (3 ∷ 4 ∷ 5 ∷ []) 1000))
    ∷ (asks 2 2 (ask.TakeMany (for_jobs (1 ∷ 2 ∷ 3 ∷ []) 16)), to 2 (says.Nothing 2))
    ∷ (gets 1 4 (ask.TakeMany (record (for_jobs (1 ∷ []) 16) { txn = Some (pos 2) })) (3 ∷ []), to 1 (says.Many 4 (job 1 ∷ [])))
    ∷ (asks 1 5 (ask.Commit (pos 2)), [])
    ∷ (step.Vote 2 0, [])
    ∷ (step.Decide 2 true, to 1 (says.Done 5))
    ∷ (step.Tell 1, to 2 (says.Told (codes "h") 1 1))
    ∷ (step.Tell 1, to 2 (says.Told (codes "h") 1 2))
    ∷ (gets 2 3 (ask.TakeMany (for_jobs (1 ∷ 2 ∷ 3 ∷ []) 16)) (4 ∷ 5 ∷ []), to 2 (says.Many 3 (job 2 ∷ job 3 ∷ [])))
    ∷ []

pub entries_written_together_are_published_together : Goes together_under_a_transaction
unfolding refusal is_quiet due touches said is_legal next
entries_written_together_are_published_together = refl

pub not_taken_together_before_the_commit : FailsAt 8 (instead 8 (gets 2 2 (ask.TakeMany (for_jobs (1 ∷ 2 ∷ 3 ∷ []) 16)) (3 ∷ 4 ∷ 5 ∷ [])) together_under_a_transaction)
unfolding refusal is_quiet due touches said is_legal next
not_taken_together_before_the_commit = refl

pub not_asked_before_all_are_told : FailsAt 14 (without 14 together_under_a_transaction)
unfolding refusal is_quiet due touches said is_legal next
not_asked_before_all_are_told = refl

pub not_told_of_the_one_that_was_taken : FailsAt 15 (before 15 (step.Tell 1) together_under_a_transaction)
unfolding refusal is_quiet due touches said is_legal next
not_told_of_the_one_that_was_taken = refl

-- ---- versions

abbrev versions : List Line
versions =
    (step.Open 1, [])
    ∷ (asks 1 1 declare_job, to 1 (says.Done 1))
    ∷ (asks 1 2 (ask.Take (record (for_job 1) { timeout = pos 1000 })), [])
    ∷ (asks 1 2 (ask.Hello version.Two), to 1 (says.Done 2))
    ∷ (asks 1 9 ask.Spaces, to 1 (says.Names 9 (codes "a" ∷ codes "b" ∷ [])))
    ∷ (asks 1 10 (ask.Hello version.One), to 1 (says.Done 10))
    ∷ (step.Fault 1 (Some 3) refusals.BadRequest, to 1 (says.Refused (Some 3) refusals.BadRequest))
    ∷ (step.Fault 1 None refusals.TooLong, to 1 (says.Refused None refusals.TooLong))
    ∷ []

pub version_is_changed_also_under_a_waiting_id : Goes versions
unfolding refusal is_quiet due touches said is_legal next
version_is_changed_also_under_a_waiting_id = refl

pub not_asked_after_a_frame_too_long_for_its_version : FailsAt 8 (before 8 (asks 1 11 (ask.Hello version.Two)) versions)
unfolding refusal is_quiet due touches said is_legal next
not_asked_after_a_frame_too_long_for_its_version = refl

pub not_a_hello_of_a_session_that_isnt_open : FailsAt 3 (instead 3 (asks 2 2 (ask.Hello version.Two)) versions)
unfolding refusal is_quiet due touches said is_legal next
not_a_hello_of_a_session_that_isnt_open = refl

-- ---- match sets

abbrev set_of_three : List Line
set_of_three =
    (step.Open 1, [])
    ∷ (asks 1 1 (ask.Hello version.Two), to 1 (says.Done 1))
    ∷ (asks 1 2 declare_job, to 1 (says.Done 2))
    ∷ (asks 1 3 (ask.WriteAll (jobs (1 ∷ 2 ∷ 3 ∷ []))), to 1 (says.Batch 3 (1 ∷ 2 ∷ 3 ∷ []) 1000))
    ∷ (asks 1 4 (ask.Contents all_jobs), to 1 (says.Leased 4 4 1000))
    ∷ (asks 1 5 (ask.Next (pos 4) 1), to 1 (says.Page 5 false (job 1 ∷ [])))
    ∷ (gets 1 6 (ask.Take (for_job 2)) (2 ∷ []), to 1 (says.Shown 6 (job 2)))
    ∷ (asks 1 7 (ask.Write (one_job 4)), to 1 (says.Leased 7 5 1000))
    ∷ (asks 1 8 (ask.Next (pos 4) 16), to 1 (says.Page 8 true (job 3 ∷ [])))
    ∷ (asks 1 9 (ask.Next (pos 4) 16), to 1 (says.Page 9 true []))
    ∷ (asks 1 10 (ask.CloseSet (pos 4)), to 1 (says.Done 10))
    ∷ (asks 1 11 (ask.Next (pos 4) 16), to 1 (says.Refused (Some 11) refusals.UnknownLease))
    ∷ []

pub match_set_shows_what_is_left_of_what_was_there : Goes set_of_three
unfolding refusal is_quiet due touches said is_legal next
match_set_shows_what_is_left_of_what_was_there = refl

pub not_a_page_of_chosen_rows : FailsAt 5 (instead 5 (gets 1 5 (ask.Next (pos 4) 1) (1 ∷ [])) set_of_three)
unfolding refusal is_quiet due touches said is_legal next
not_a_page_of_chosen_rows = refl

pub not_kept_by_a_match_set : FailsAt 7 (before 7 (gets 1 9 (ask.Read (for_job 2)) (2 ∷ [])) set_of_three)
unfolding refusal is_quiet due touches said is_legal next
not_kept_by_a_match_set = refl

pub not_marked_as_read_by_a_match_set : FailsAt 6 (instead 6 (asks 1 6 (ask.Take (for_job 2))) set_of_three)
unfolding refusal is_quiet due touches said is_legal next
not_marked_as_read_by_a_match_set = refl

abbrev set_beside_a_take : List Line
set_beside_a_take =
    (step.Open 1, [])
    ∷ (asks 1 1 (ask.Hello version.Two), to 1 (says.Done 1))
    ∷ (asks 1 2 declare_job, to 1 (says.Done 2))
    ∷ (asks 1 3 (ask.WriteAll (jobs (1 ∷ 2 ∷ []))), to 1 (says.Batch 3 (1 ∷ 2 ∷ []) 1000))
    ∷ (asks 1 4 (ask.Txn (pos 1000)), to 1 (says.Leased 4 3 1000))
    ∷ (gets 1 5 (ask.Take (record (for_job 1) { txn = Some (pos 3) })) (1 ∷ []), to 1 (says.Shown 5 (job 1)))
    ∷ (asks 1 6 (ask.Contents all_jobs), to 1 (says.Leased 6 4 1000))
    ∷ (asks 1 7 (ask.Next (pos 4) 16), to 1 (says.Page 7 true (job 2 ∷ [])))
    ∷ (asks 1 8 (ask.Abort (pos 3)), to 1 (says.Done 8))
    ∷ (asks 1 9 (ask.Next (pos 4) 16), to 1 (says.Page 9 true []))
    ∷ []

pub match_set_hides_a_taken_row : Goes set_beside_a_take
unfolding refusal is_quiet due touches said is_legal next
match_set_hides_a_taken_row = refl

pub not_read_beside_the_match_set : FailsAt 7 (before 7 (gets 1 9 (ask.Read (for_job 1)) (1 ∷ [])) set_beside_a_take)
unfolding refusal is_quiet due touches said is_legal next
not_read_beside_the_match_set = refl

abbrev set_under_a_transaction : List Line
set_under_a_transaction =
    (step.Open 1, [])
    ∷ (asks 1 0 (ask.Hello version.Two), to 1 (says.Done 0))
    ∷ (step.Open 2, [])
    ∷ (asks 2 0 (ask.Hello version.Two), to 2 (says.Done 0))
    ∷ (asks 1 1 declare_job, to 1 (says.Done 1))
    ∷ (asks 1 2 (ask.WriteAll (jobs (1 ∷ 2 ∷ 3 ∷ []))), to 1 (says.Batch 2 (1 ∷ 2 ∷ 3 ∷ []) 1000))
    ∷ (asks 1 3 (ask.Txn (pos 1000)), to 1 (says.Leased 3 4 1000))
    ∷ (asks 1 4 (ask.Write (record (one_job 4) { txn = Some (pos 4) })), to 1 (says.Leased 4 5 1000))
    ∷ (asks 1 5 (ask.Contents (record all_jobs { txn = Some (pos 4) })), to 1 (says.Leased 5 6 1000))
    ∷ (asks 2 1 (ask.Contents all_jobs), to 2 (says.Leased 1 7 1000))
    ∷ (asks 1 6 (ask.Next (pos 6) 2), to 1 (says.Page 6 false (job 1 ∷ job 2 ∷ [])))
    ∷ (gets 1 7 (ask.Take (record (for_job 3) { txn = Some (pos 4) })) (3 ∷ []), to 1 (says.Shown 7 (job 3)))
    ∷ (asks 1 8 (ask.Next (pos 6) 2), to 1 (says.Page 8 true (job 4 ∷ [])))
    ∷ (asks 2 2 (ask.Next (pos 7) 16), to 2 (says.Page 2 true (job 1 ∷ job 2 ∷ [])))
    ∷ (asks 2 3 (ask.Next (pos 6) 16), to 2 (says.Refused (Some 3) refusals.UnknownLease))
    ∷ (asks 2 4 (ask.CloseSet (pos 6)), to 2 (says.Refused (Some 4) refusals.UnknownLease))
    ∷ (asks 1 9 (ask.Commit (pos 4)), [])
    ∷ (asks 1 10 (ask.Next (pos 6) 2), to 1 (says.Refused (Some 10) refusals.UnknownLease))
    ∷ (asks 2 5 (ask.Contents (record all_jobs { txn = Some (pos 4) })), to 2 (says.Refused (Some 5) refusals.NotActive))
    ∷ (step.Vote 4 0, [])
    ∷ (step.Decide 4 true, to 1 (says.Done 9))
    ∷ (asks 2 6 (ask.Next (pos 7) 16), to 2 (says.Page 6 true (job 4 ∷ [])))
    ∷ []

pub match_set_under_a_transaction_shows_its_hidden_rows_and_ends_with_it : Goes set_under_a_transaction
unfolding refusal is_quiet due touches said is_legal next
match_set_under_a_transaction_shows_its_hidden_rows_and_ends_with_it = refl

pub not_read_by_one_who_sees_it_in_no_match_set : FailsAt 14 (before 14 (gets 2 9 (ask.Read (for_job 4)) (5 ∷ [])) set_under_a_transaction)
unfolding refusal is_quiet due touches said is_legal next
not_read_by_one_who_sees_it_in_no_match_set = refl

abbrev sets_end : List Line
sets_end =
    (step.Open 1, [])
    ∷ (asks 1 0 (ask.Hello version.Two), to 1 (says.Done 0))
    ∷ (asks 1 1 declare_job, to 1 (says.Done 1))
    ∷ (asks 1 2 (ask.Write (one_job 1)), to 1 (says.Leased 2 1 1000))
    ∷ (asks 1 3 (ask.Contents (record all_jobs { lease = pos 50 })), to 1 (says.Leased 3 2 50))
    ∷ (asks 1 4 (ask.Contents (record all_jobs { lease = pos 100 })), to 1 (says.Leased 4 3 100))
    ∷ (asks 1 5 (ask.Contents (record all_jobs { lease = pos 100; space = codes "b" })), to 1 (says.Leased 5 4 100))
    ∷ (asks 1 6 (ask.Contents (record all_jobs { space = codes "c" })), to 1 (says.Refused (Some 6) refusals.UnknownSpace))
    ∷ (asks 1 7 (ask.Contents (record all_jobs { lease = negsuc 1 })), to 1 (says.Refused (Some 7) refusals.BadLease))
    ∷ (asks 1 8 (ask.Renew (pos 2) (pos 60)), to 1 (says.Leased 8 2 60))
    ∷ (step.Clock 60, [])
    ∷ (ends rank.MatchSet 2 60, [])
    ∷ (asks 1 9 (ask.Next (pos 2) 1), to 1 (says.Refused (Some 9) refusals.UnknownLease))
    ∷ (asks 1 10 (ask.Cancel (pos 3)), to 1 (says.Done 10))
    ∷ (asks 1 11 (ask.CloseSet (pos 3)), to 1 (says.Refused (Some 11) refusals.UnknownLease))
    ∷ (asks 1 12 (ask.Reset (codes "b")), to 1 (says.Done 12))
    ∷ (asks 1 13 (ask.Next (pos 4) 1), to 1 (says.Refused (Some 13) refusals.UnknownLease))
    ∷ []

pub match_set_ends_with_its_lease_its_cancel_or_its_space : Goes sets_end
unfolding refusal is_quiet due touches said is_legal next
match_set_ends_with_its_lease_its_cancel_or_its_space = refl

pub not_asked_while_a_match_set_is_due : FailsAt 11 (without 11 sets_end)
unfolding refusal is_quiet due touches said is_legal next
not_asked_while_a_match_set_is_due = refl

pub not_ended_at_the_end_that_it_had : FailsAt 11 (instead 11 (ends rank.MatchSet 2 50) sets_end)
unfolding refusal is_quiet due touches said is_legal next
not_ended_at_the_end_that_it_had = refl

pub not_ended_before_the_end_of_its_lease : FailsAt 10 (before 10 (ends rank.MatchSet 2 60) sets_end)
unfolding refusal is_quiet due touches said is_legal next
not_ended_before_the_end_of_its_lease = refl

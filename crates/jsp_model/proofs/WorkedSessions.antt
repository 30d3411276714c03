-- Worked runs of sessions: how they open, ask, are answered and close.
use Rattle.std.specs.Prelude.{refl, pos, List, [], ◌∷◌, Some, None, codes}
use Rattle.jsp_wire.specs.declared.ask.Ask.TheVariants as ask
use Rattle.jsp_wire.specs.declared.ask.Version.TheVariants as version
use Rattle.jsp_reply.specs.declared.refusal.Refusal.TheVariants as refusals
use Rattle.jsp_reply.specs.declared.reply.Reply.TheVariants as says
use Rattle.jsp_reply.specs.declared.reply.TxnState.TheVariants.{Active}
use Rattle.jsp_model.specs.declared.step.Step.TheVariants as step
use Rattle.jsp_model.specs.Quiet.{is_quiet}
use Rattle.jsp_model.specs.Due.{due}
use Rattle.jsp_model.specs.Touches.{touches}
use Rattle.jsp_model.specs.Refusals.{refusal}
use Rattle.jsp_model.specs.Answers.{said}
use Rattle.jsp_model.specs.Steps.{is_legal, next}
use Rattle.jsp_model.proofs.WorkedParts.{Line, Goes, FailsAt, instead, before, without, asks, gets, to, job, declare_job, one_job, for_job, on_jobs, all_jobs}

-- ---- the names of the spaces

abbrev spaces_asked : List Line
spaces_asked =
    (step.Open 1, [])
    ∷ (asks 1 9 ask.Spaces, to 1 (says.Names 9 (codes "a" ∷ codes "b" ∷ [])))
    ∷ []

pub spaces_are_named_in_their_order : Goes spaces_asked
unfolding refusal is_quiet due touches said is_legal next
spaces_are_named_in_their_order = refl

pub not_asked_before_the_session_is_open : FailsAt 0 (without 0 spaces_asked)
unfolding refusal is_quiet due touches said is_legal next
not_asked_before_the_session_is_open = refl

pub not_opened_twice : FailsAt 1 (before 1 (step.Open 1) spaces_asked)
unfolding refusal is_quiet due touches said is_legal next
not_opened_twice = refl

pub not_numbered_0 : FailsAt 0 (instead 0 (step.Open 0) spaces_asked)
unfolding refusal is_quiet due touches said is_legal next
not_numbered_0 = refl

pub not_numbered_past_the_last : FailsAt 0 (instead 0 (step.Open 2147483649) spaces_asked)
unfolding refusal is_quiet due touches said is_legal next
not_numbered_past_the_last = refl

pub not_given_a_row_for_no_rows : FailsAt 1 (instead 1 (gets 1 9 ask.Spaces (1 ∷ [])) spaces_asked)
unfolding refusal is_quiet due touches said is_legal next
not_given_a_row_for_no_rows = refl

-- ---- sessions are opened in rising order

abbrev sessions_opened : List Line
sessions_opened =
    (step.Open 1, [])
    ∷ (step.Shut 1, [])
    ∷ (step.Open 4, [])
    ∷ (step.Open 2147483648, [])
    ∷ []

pub session_numbers_rise : Goes sessions_opened
unfolding refusal is_quiet due touches said is_legal next
session_numbers_rise = refl

pub not_opened_below_an_earlier_one : FailsAt 3 (before 3 (step.Open 3) sessions_opened)
unfolding refusal is_quiet due touches said is_legal next
not_opened_below_an_earlier_one = refl

pub not_opened_again_once_closed : FailsAt 2 (instead 2 (step.Open 1) sessions_opened)
unfolding refusal is_quiet due touches said is_legal next
not_opened_again_once_closed = refl

pub not_closed_twice : FailsAt 2 (before 2 (step.Shut 1) sessions_opened)
unfolding refusal is_quiet due touches said is_legal next
not_closed_twice = refl

-- ---- answers are handed out in their order

abbrev answers_in_pieces : List Line
answers_in_pieces =
    (step.Open 1, [])
    ∷ (asks 1 1 ask.Spaces, to 1 (says.Names 1 (codes "a" ∷ codes "b" ∷ [])))
    ∷ (asks 1 2 (ask.Cancel (pos 1)), to 1 (says.Refused (Some 2) refusals.UnknownLease))
    ∷ (asks 1 3 (ask.Txn (pos 1000)), to 1 (says.Leased 3 1 1000))
    ∷ (step.HandOut 1 2, [])
    ∷ (step.HandOut 1 1, [])
    ∷ []

pub answers_are_handed_out_in_pieces : Goes answers_in_pieces
unfolding refusal is_quiet due touches said is_legal next
answers_are_handed_out_in_pieces = refl

pub not_more_than_was_said : FailsAt 4 (instead 4 (step.HandOut 1 4) answers_in_pieces)
unfolding refusal is_quiet due touches said is_legal next
not_more_than_was_said = refl

pub not_handed_out_twice : FailsAt 6 (before 6 (step.HandOut 1 1) answers_in_pieces)
unfolding refusal is_quiet due touches said is_legal next
not_handed_out_twice = refl

pub not_none_handed_out : FailsAt 4 (instead 4 (step.HandOut 1 0) answers_in_pieces)
unfolding refusal is_quiet due touches said is_legal next
not_none_handed_out = refl

pub not_before_it_was_said : FailsAt 1 (before 1 (step.HandOut 1 1) answers_in_pieces)
unfolding refusal is_quiet due touches said is_legal next
not_before_it_was_said = refl

pub not_handed_to_another_session : FailsAt 4 (instead 4 (step.HandOut 2 1) answers_in_pieces)
unfolding refusal is_quiet due touches said is_legal next
not_handed_to_another_session = refl

-- ---- what is no request

abbrev faults : List Line
faults =
    (step.Open 1, [])
    ∷ (step.Fault 1 None refusals.BadJson, to 1 (says.Refused None refusals.BadJson))
    ∷ (step.Fault 1 None refusals.BadJson, to 1 (says.Refused None refusals.BadJson))
    ∷ (step.Fault 1 (Some 5) refusals.BadRequest, to 1 (says.Refused (Some 5) refusals.BadRequest))
    ∷ (asks 1 5 ask.Spaces, to 1 (says.Names 5 (codes "a" ∷ codes "b" ∷ [])))
    ∷ (step.Fault 1 None refusals.BadRequest, to 1 (says.Refused None refusals.BadRequest))
    ∷ []

pub session_goes_on_after_a_fault : Goes faults
unfolding refusal is_quiet due touches said is_legal next
session_goes_on_after_a_fault = refl

pub not_a_fault_of_a_request : FailsAt 3 (instead 3 (step.Fault 1 (Some 5) refusals.UnknownSpace) faults)
unfolding refusal is_quiet due touches said is_legal next
not_a_fault_of_a_request = refl

pub not_a_fault_of_a_session_that_isnt_open : FailsAt 1 (instead 1 (step.Fault 2 None refusals.BadJson) faults)
unfolding refusal is_quiet due touches said is_legal next
not_a_fault_of_a_session_that_isnt_open = refl

abbrev fault_of_a_waiting_id : List Line
fault_of_a_waiting_id =
    (step.Open 1, [])
    ∷ (step.Open 2, [])
    ∷ (asks 1 1 declare_job, to 1 (says.Done 1))
    ∷ (asks 1 7 (ask.Take (record (for_job 1) { timeout = pos 1000 })), [])
    ∷ (step.Fault 1 (Some 7) refusals.BadRequest, to 1 (says.Refused (Some 7) refusals.BadRequest))
    ∷ (asks 2 1 (ask.Write (one_job 1)), to 2 (says.Leased 1 2 1000))
    ∷ (step.Grant 1 (2 ∷ []), to 1 (says.Shown 7 (job 1)))
    ∷ []

pub fault_leaves_the_request_of_its_id_waiting : Goes fault_of_a_waiting_id
unfolding refusal is_quiet due touches said is_legal next
fault_leaves_the_request_of_its_id_waiting = refl

pub not_given_up_at_a_fault : FailsAt 6 (instead 6 (asks 1 8 (ask.Read (for_job 1))) fault_of_a_waiting_id)
unfolding refusal is_quiet due touches said is_legal next
not_given_up_at_a_fault = refl

abbrev too_long_frame : List Line
too_long_frame =
    (step.Open 1, [])
    ∷ (asks 1 1 declare_job, to 1 (says.Done 1))
    ∷ (asks 1 2 (ask.Take (record (for_job 1) { timeout = pos 1000 })), [])
    ∷ (step.Fault 1 None refusals.TooLong, to 1 (says.Refused None refusals.TooLong))
    ∷ (step.HandOut 1 2, [])
    ∷ []

pub too_long_frame_closes : Goes too_long_frame
unfolding refusal is_quiet due touches said is_legal next
too_long_frame_closes = refl

pub not_asked_after_a_frame_too_long : FailsAt 4 (instead 4 (asks 1 10 ask.Spaces) too_long_frame)
unfolding refusal is_quiet due touches said is_legal next
not_asked_after_a_frame_too_long = refl

pub not_another_fault_after_a_frame_too_long : FailsAt 4 (instead 4 (step.Fault 1 None refusals.BadJson) too_long_frame)
unfolding refusal is_quiet due touches said is_legal next
not_another_fault_after_a_frame_too_long = refl

-- ---- a session ends itself

abbrev goodbye : List Line
goodbye =
    (step.Open 1, [])
    ∷ (asks 1 1 ask.Bye, to 1 (says.Done 1))
    ∷ (step.HandOut 1 1, [])
    ∷ []

pub bye_closes : Goes goodbye
unfolding refusal is_quiet due touches said is_legal next
bye_closes = refl

pub not_asked_after_bye : FailsAt 2 (instead 2 (asks 1 2 ask.Spaces) goodbye)
unfolding refusal is_quiet due touches said is_legal next
not_asked_after_bye = refl

pub not_closed_after_bye : FailsAt 2 (instead 2 (step.Shut 1) goodbye)
unfolding refusal is_quiet due touches said is_legal next
not_closed_after_bye = refl

abbrev goodbye_of_a_waiting_id : List Line
goodbye_of_a_waiting_id =
    (step.Open 1, [])
    ∷ (step.Open 2, [])
    ∷ (asks 1 1 declare_job, to 1 (says.Done 1))
    ∷ (asks 1 2 (ask.Take (record (for_job 1) { timeout = pos 1000 })), [])
    ∷ (asks 1 2 ask.Bye, to 1 (says.Refused (Some 2) refusals.IdInUse))
    ∷ (asks 1 3 ask.Bye, to 1 (says.Done 3))
    ∷ (asks 2 1 (ask.Write (one_job 1)), to 2 (says.Leased 1 2 1000))
    ∷ (gets 2 2 (ask.Read (for_job 1)) (2 ∷ []), to 2 (says.Shown 2 (job 1)))
    ∷ []

pub bye_of_a_waiting_id_is_refused : Goes goodbye_of_a_waiting_id
unfolding refusal is_quiet due touches said is_legal next
bye_of_a_waiting_id_is_refused = refl

pub not_granted_after_bye : FailsAt 7 (before 7 (step.Grant 1 (2 ∷ [])) goodbye_of_a_waiting_id)
unfolding refusal is_quiet due touches said is_legal next
not_granted_after_bye = refl

-- ---- what a closed session waited for goes; what it wrote and what was said to it stays

abbrev session_closed : List Line
session_closed =
    (step.Open 1, [])
    ∷ (step.Open 2, [])
    ∷ (asks 2 0 (ask.Hello version.Two), to 2 (says.Done 0))
    ∷ (asks 1 1 declare_job, to 1 (says.Done 1))
    ∷ (asks 2 1 (ask.Write (one_job 9)), to 2 (says.Leased 1 1 1000))
    ∷ (asks 2 2 (ask.Notify (on_jobs (codes "h"))), to 2 (says.Leased 2 2 5000))
    ∷ (asks 2 3 (ask.Contents all_jobs), to 2 (says.Leased 3 3 1000))
    ∷ (asks 2 4 (ask.Take (record (for_job 1) { timeout = pos 1000 })), [])
    ∷ (asks 2 5 (ask.Txn (pos 1000)), to 2 (says.Leased 5 5 1000))
    ∷ (asks 2 6 (ask.Write (record (one_job 8) { txn = Some (pos 5) })), to 2 (says.Leased 6 6 1000))
    ∷ (step.Shut 2, [])
    ∷ (step.HandOut 2 6, [])
    ∷ (asks 1 2 (ask.Write (one_job 1)), to 1 (says.Leased 2 7 1000))
    ∷ (gets 1 3 (ask.Read (for_job 9)) (1 ∷ []), to 1 (says.Shown 3 (job 9)))
    ∷ (asks 1 4 (ask.Cancel (pos 2)), to 1 (says.Refused (Some 4) refusals.UnknownLease))
    ∷ (asks 1 5 (ask.Cancel (pos 3)), to 1 (says.Refused (Some 5) refusals.UnknownLease))
    ∷ (asks 1 6 (ask.State (pos 5)), to 1 (says.State 6 Active))
    ∷ (gets 1 7 (ask.Take (record (for_job 8) { txn = Some (pos 5) })) (6 ∷ []), to 1 (says.Shown 7 (job 8)))
    ∷ []

pub closing_drops_what_waits_and_keeps_what_was_written : Goes session_closed
unfolding refusal is_quiet due touches said is_legal next
closing_drops_what_waits_and_keeps_what_was_written = refl

pub not_granted_to_a_closed_session : FailsAt 13 (before 13 (step.Grant 4 (7 ∷ [])) session_closed)
unfolding refusal is_quiet due touches said is_legal next
not_granted_to_a_closed_session = refl

pub not_told_to_a_closed_session : FailsAt 13 (before 13 (step.Tell 2) session_closed)
unfolding refusal is_quiet due touches said is_legal next
not_told_to_a_closed_session = refl

pub not_asked_by_a_closed_session : FailsAt 11 (before 11 (asks 2 7 ask.Spaces) session_closed)
unfolding refusal is_quiet due touches said is_legal next
not_asked_by_a_closed_session = refl

pub not_more_than_was_said_before_closing : FailsAt 11 (instead 11 (step.HandOut 2 7) session_closed)
unfolding refusal is_quiet due touches said is_legal next
not_more_than_was_said_before_closing = refl

-- Worked runs of entries: classes, what a template matches, and writing, reading and taking without a transaction.
use Rattle.std.specs.Prelude.{refl, ℕ, pos, negsuc, List, [], ◌∷◌, Option, Some, None, codes}
use Rattle.jsp_types.specs.declared.value.Kind.{Kind}
use Rattle.jsp_types.specs.declared.value.Value.{Value}
use Rattle.jsp_types.specs.declared.value.Kind.TheVariants as kind
use Rattle.jsp_types.specs.declared.value.Value.TheVariants as value
use Rattle.jsp_types.specs.declared.entry.Raw.{Raw}
use Rattle.jsp_types.specs.declared.entry.Entry.{Entry}
use Rattle.jsp_wire.specs.declared.ask.Ask.{Ask}
use Rattle.jsp_wire.specs.declared.ask.Ask.TheVariants as ask
use Rattle.jsp_reply.specs.declared.refusal.Refusal.TheVariants as refusals
use Rattle.jsp_reply.specs.declared.reply.Reply.TheVariants as says
use Rattle.jsp_model.specs.declared.step.Step.TheVariants as step
use Rattle.jsp_model.specs.Quiet.{is_quiet}
use Rattle.jsp_model.specs.Due.{due}
use Rattle.jsp_model.specs.Touches.{touches}
use Rattle.jsp_model.specs.Refusals.{refusal}
use Rattle.jsp_model.specs.Answers.{said}
use Rattle.jsp_model.specs.Steps.{is_legal, next}
use Rattle.jsp_model.proofs.WorkedParts.{Line, Goes, FailsAt, instead, asks, gets, to, job, undeclared, with_a_text_for_a_number, with_a_field_too_many, declare_job, one_job, for_job}

abbrev declare_rush : Ask
declare_rush = ask.Declare (record { class = codes "Rush"; parent = Some (codes "Job"); fields = (codes "n", Some kind.Int) ∷ [] })

abbrev raw_rush : List (List ℕ × Value) → Raw
raw_rush fields = record { class = codes "Rush"; fields = fields }

abbrev rush : Value → Value → Value → Entry
rush k who n = record { class = codes "Rush"; fields = (codes "k", k) ∷ (codes "who", who) ∷ (codes "n", n) ∷ [] }

abbrev who_empty : Raw
who_empty = record { class = codes "Job"; fields = (codes "who", value.Text []) ∷ [] }

abbrev raw_k2_who_empty : Raw
raw_k2_who_empty = record { class = codes "Job"; fields = (codes "k", value.Int (pos 2)) ∷ (codes "who", value.Text []) ∷ [] }

abbrev k2_who_empty : Entry
k2_who_empty = record { class = codes "Job"; fields = (codes "k", value.Int (pos 2)) ∷ (codes "who", value.Text []) ∷ [] }

abbrev class_of : List ℕ → Option (List ℕ) → List (List ℕ × Option Kind) → Ask
class_of class parent fields = ask.Declare (record { class = class; parent = parent; fields = fields })

-- ---- an entry is written, and taken once

abbrev one_entry_taken : List Line
one_entry_taken =
    (step.Open 1, [])
    ∷ (asks 1 1 declare_job, to 1 (says.Done 1))
    ∷ (step.HandOut 1 1, [])
    ∷ (asks 1 2 (ask.Write (one_job 1)), to 1 (says.Leased 2 1 1000))
    ∷ (step.HandOut 1 1, [])
    ∷ (gets 1 3 (ask.Take (for_job 1)) (1 ∷ []), to 1 (says.Shown 3 (job 1)))
    ∷ (step.HandOut 1 1, [])
    ∷ (asks 1 4 (ask.Take (for_job 1)), to 1 (says.Nothing 4))
    ∷ (step.HandOut 1 1, [])
    ∷ []

pub entry_is_taken_once : Goes one_entry_taken
unfolding refusal is_quiet due touches said is_legal next
entry_is_taken_once = refl

pub not_null_while_an_entry_is_available : FailsAt 5 (instead 5 (asks 1 3 (ask.Take (for_job 1))) one_entry_taken)
unfolding refusal is_quiet due touches said is_legal next
not_null_while_an_entry_is_available = refl

pub not_taken_twice : FailsAt 7 (instead 7 (gets 1 4 (ask.Take (for_job 1)) (1 ∷ [])) one_entry_taken)
unfolding refusal is_quiet due touches said is_legal next
not_taken_twice = refl

pub not_an_entry_that_isnt_there : FailsAt 5 (instead 5 (gets 1 3 (ask.Take (for_job 1)) (2 ∷ [])) one_entry_taken)
unfolding refusal is_quiet due touches said is_legal next
not_an_entry_that_isnt_there = refl

pub not_two_entries_for_one : FailsAt 5 (instead 5 (gets 1 3 (ask.Take (for_job 1)) (1 ∷ 1 ∷ [])) one_entry_taken)
unfolding refusal is_quiet due touches said is_legal next
not_two_entries_for_one = refl

pub not_taken_before_it_is_written : FailsAt 3 (instead 3 (gets 1 2 (ask.Take (for_job 1)) (1 ∷ [])) one_entry_taken)
unfolding refusal is_quiet due touches said is_legal next
not_taken_before_it_is_written = refl

pub not_more_answers_than_there_are : FailsAt 2 (instead 2 (step.HandOut 1 2) one_entry_taken)
unfolding refusal is_quiet due touches said is_legal next
not_more_answers_than_there_are = refl

abbrev two_sessions : List Line
two_sessions =
    (step.Open 1, [])
    ∷ (step.Open 2, [])
    ∷ (asks 2 1 declare_job, to 2 (says.Done 1))
    ∷ (asks 2 2 (ask.Write (one_job 1)), to 2 (says.Leased 2 1 1000))
    ∷ (gets 1 7 (ask.Take (record (for_job 1) { timeout = pos 1000 })) (1 ∷ []), to 1 (says.Shown 7 (job 1)))
    ∷ []

pub entry_is_taken_by_another_session : Goes two_sessions
unfolding refusal is_quiet due touches said is_legal next
entry_is_taken_by_another_session = refl

pub not_waiting_while_an_entry_is_available : FailsAt 4 (instead 4 (asks 1 7 (ask.Take (record (for_job 1) { timeout = pos 1000 }))) two_sessions)
unfolding refusal is_quiet due touches said is_legal next
not_waiting_while_an_entry_is_available = refl

abbrev equal_entries : List Line
equal_entries =
    (step.Open 1, [])
    ∷ (asks 1 1 declare_job, to 1 (says.Done 1))
    ∷ (asks 1 2 (ask.Write (one_job 1)), to 1 (says.Leased 2 1 1000))
    ∷ (asks 1 3 (ask.Write (one_job 1)), to 1 (says.Leased 3 2 1000))
    ∷ (gets 1 4 (ask.Read (for_job 1)) (1 ∷ []), to 1 (says.Shown 4 (job 1)))
    ∷ (gets 1 5 (ask.Read (for_job 1)) (2 ∷ []), to 1 (says.Shown 5 (job 1)))
    ∷ (gets 1 6 (ask.Take (for_job 1)) (2 ∷ []), to 1 (says.Shown 6 (job 1)))
    ∷ (gets 1 7 (ask.TakeIf (for_job 1)) (1 ∷ []), to 1 (says.Shown 7 (job 1)))
    ∷ (asks 1 8 (ask.ReadIf (for_job 1)), to 1 (says.Nothing 8))
    ∷ []

pub equal_entries_are_two : Goes equal_entries
unfolding refusal is_quiet due touches said is_legal next
equal_entries_are_two = refl

pub not_the_one_that_was_taken : FailsAt 7 (instead 7 (gets 1 7 (ask.TakeIf (for_job 1)) (2 ∷ [])) equal_entries)
unfolding refusal is_quiet due touches said is_legal next
not_the_one_that_was_taken = refl

pub not_both_for_one_read : FailsAt 4 (instead 4 (gets 1 4 (ask.Read (for_job 1)) (1 ∷ 2 ∷ [])) equal_entries)
unfolding refusal is_quiet due touches said is_legal next
not_both_for_one_read = refl

pub not_kept_by_reading_if_it_exists : FailsAt 8 (instead 8 (gets 1 8 (ask.ReadIf (for_job 1)) (1 ∷ [])) equal_entries)
unfolding refusal is_quiet due touches said is_legal next
not_kept_by_reading_if_it_exists = refl

abbrev entry_in_b : List Line
entry_in_b =
    (step.Open 1, [])
    ∷ (asks 1 1 declare_job, to 1 (says.Done 1))
    ∷ (asks 1 2 (ask.Write (record (one_job 1) { space = codes "b" })), to 1 (says.Leased 2 1 1000))
    ∷ (asks 1 3 (ask.Read (for_job 1)), to 1 (says.Nothing 3))
    ∷ (gets 1 4 (ask.Read (record (for_job 1) { space = codes "b" })) (1 ∷ []), to 1 (says.Shown 4 (job 1)))
    ∷ []

pub spaces_are_apart : Goes entry_in_b
unfolding refusal is_quiet due touches said is_legal next
spaces_are_apart = refl

pub not_an_entry_of_another_space : FailsAt 3 (instead 3 (gets 1 3 (ask.Read (for_job 1)) (1 ∷ [])) entry_in_b)
unfolding refusal is_quiet due touches said is_legal next
not_an_entry_of_another_space = refl

pub not_null_in_its_own_space : FailsAt 4 (instead 4 (asks 1 4 (ask.Read (record (for_job 1) { space = codes "b" }))) entry_in_b)
unfolding refusal is_quiet due touches said is_legal next
not_null_in_its_own_space = refl

-- ---- what a template matches

abbrev subclass : List Line
subclass =
    (step.Open 1, [])
    ∷ (asks 1 1 declare_job, to 1 (says.Done 1))
    ∷ (asks 1 2 declare_rush, to 1 (says.Done 2))
    ∷ (asks 1 3 (ask.Write (record (one_job 1) { entry = raw_rush ((codes "k", value.Int (pos 5)) ∷ (codes "n", value.Int (pos 9)) ∷ []) })), to 1 (says.Leased 3 1 1000))
    ∷ (gets 1 4 (ask.Read (for_job 5)) (1 ∷ []), to 1 (says.Shown 4 (rush (value.Int (pos 5)) value.Null (value.Int (pos 9)))))
    ∷ (asks 1 5 (ask.Write (one_job 6)), to 1 (says.Leased 5 2 1000))
    ∷ (asks 1 6 (ask.Read (record (for_job 1) { template = Some (raw_rush ((codes "k", value.Int (pos 6)) ∷ [])) })), to 1 (says.Nothing 6))
    ∷ []

pub parents_template_matches_a_subclass : Goes subclass
unfolding refusal is_quiet due touches said is_legal next
parents_template_matches_a_subclass = refl

pub not_null_for_an_entry_of_a_subclass : FailsAt 4 (instead 4 (asks 1 4 (ask.Read (for_job 5))) subclass)
unfolding refusal is_quiet due touches said is_legal next
not_null_for_an_entry_of_a_subclass = refl

pub not_an_entry_of_the_parent : FailsAt 6 (instead 6 (gets 1 6 (ask.Read (record (for_job 1) { template = Some (raw_rush ((codes "k", value.Int (pos 6)) ∷ [])) })) (2 ∷ [])) subclass)
unfolding refusal is_quiet due touches said is_legal next
not_an_entry_of_the_parent = refl

abbrev null_field : List Line
null_field =
    (step.Open 1, [])
    ∷ (asks 1 1 declare_job, to 1 (says.Done 1))
    ∷ (asks 1 2 (ask.Write (one_job 1)), to 1 (says.Leased 2 1 1000))
    ∷ (asks 1 3 (ask.Read (record (for_job 1) { template = Some who_empty })), to 1 (says.Nothing 3))
    ∷ (asks 1 4 (ask.Write (record (one_job 1) { entry = raw_k2_who_empty })), to 1 (says.Leased 4 2 1000))
    ∷ (gets 1 5 (ask.Read (record (for_job 1) { template = Some who_empty })) (2 ∷ []), to 1 (says.Shown 5 k2_who_empty))
    ∷ []

pub null_field_isnt_the_empty_text : Goes null_field
unfolding refusal is_quiet due touches said is_legal next
null_field_isnt_the_empty_text = refl

pub not_a_null_for_the_empty_text : FailsAt 3 (instead 3 (gets 1 3 (ask.Read (record (for_job 1) { template = Some who_empty })) (1 ∷ [])) null_field)
unfolding refusal is_quiet due touches said is_legal next
not_a_null_for_the_empty_text = refl

pub not_the_null_beside_the_empty_text : FailsAt 5 (instead 5 (gets 1 5 (ask.Read (record (for_job 1) { template = Some who_empty })) (1 ∷ [])) null_field)
unfolding refusal is_quiet due touches said is_legal next
not_the_null_beside_the_empty_text = refl

abbrev null_template : List Line
null_template =
    (step.Open 1, [])
    ∷ (asks 1 1 declare_job, to 1 (says.Done 1))
    ∷ (asks 1 2 declare_rush, to 1 (says.Done 2))
    ∷ (asks 1 3 (ask.Read (record (for_job 1) { template = None })), to 1 (says.Nothing 3))
    ∷ (asks 1 4 (ask.Write (record (one_job 1) { entry = raw_rush [] })), to 1 (says.Leased 4 1 1000))
    ∷ (gets 1 5 (ask.Read (record (for_job 1) { template = None })) (1 ∷ []), to 1 (says.Shown 5 (rush value.Null value.Null value.Null)))
    ∷ []

pub null_template_matches_any_entry : Goes null_template
unfolding refusal is_quiet due touches said is_legal next
null_template_matches_any_entry = refl

pub not_null_for_any_entry : FailsAt 5 (instead 5 (asks 1 5 (ask.Read (record (for_job 1) { template = None }))) null_template)
unfolding refusal is_quiet due touches said is_legal next
not_null_for_any_entry = refl

pub not_an_entry_of_an_empty_space : FailsAt 3 (instead 3 (gets 1 3 (ask.Read (record (for_job 1) { template = None })) (1 ∷ [])) null_template)
unfolding refusal is_quiet due touches said is_legal next
not_an_entry_of_an_empty_space = refl

-- ---- what is refused

abbrev classes_refused : List Line
classes_refused =
    (step.Open 1, [])
    ∷ (asks 1 1 declare_job, to 1 (says.Done 1))
    ∷ (asks 1 2 declare_job, to 1 (says.Done 2))
    ∷ (asks 1 3 (class_of (codes "Job") None ((codes "k", Some kind.Int) ∷ [])), to 1 (says.Refused (Some 3) refusals.Differs))
    ∷ (asks 1 4 (class_of (codes "Odd job") None []), to 1 (says.Refused (Some 4) refusals.BadClass))
    ∷ (asks 1 5 (class_of (codes "Task") None ((codes "k", None) ∷ [])), to 1 (says.Refused (Some 5) refusals.BadClass))
    ∷ (asks 1 6 (class_of (codes "Task") None ((codes "k", Some kind.Int) ∷ (codes "k", Some kind.Int) ∷ [])), to 1 (says.Refused (Some 6) refusals.BadClass))
    ∷ (asks 1 7 (class_of (codes "Task") (Some (codes "Nope")) []), to 1 (says.Refused (Some 7) refusals.UnknownClass))
    ∷ (asks 1 8 (class_of (codes "Task") (Some (codes "Job")) ((codes "k", Some kind.Int) ∷ [])), to 1 (says.Refused (Some 8) refusals.BadClass))
    ∷ (asks 1 9 (class_of (codes "Task") (Some (codes "Job")) ((codes "done", Some kind.Bool) ∷ [])), to 1 (says.Done 9))
    ∷ []

pub classes_are_declared_once_and_well_formed : Goes classes_refused
unfolding refusal is_quiet due touches said is_legal next
classes_are_declared_once_and_well_formed = refl

pub not_a_row_for_a_declaration : FailsAt 2 (instead 2 (gets 1 2 declare_job (1 ∷ [])) classes_refused)
unfolding refusal is_quiet due touches said is_legal next
not_a_row_for_a_declaration = refl

abbrev entries_refused : List Line
entries_refused =
    (step.Open 1, [])
    ∷ (asks 1 1 declare_job, to 1 (says.Done 1))
    ∷ (asks 1 2 (ask.Write (one_job 1)), to 1 (says.Leased 2 1 1000))
    ∷ (asks 1 3 (ask.Write (record (one_job 1) { space = codes "c" })), to 1 (says.Refused (Some 3) refusals.UnknownSpace))
    ∷ (asks 1 4 (ask.Write (record (one_job 1) { entry = undeclared })), to 1 (says.Refused (Some 4) refusals.UnknownClass))
    ∷ (asks 1 5 (ask.Write (record (one_job 1) { entry = with_a_text_for_a_number })), to 1 (says.Refused (Some 5) refusals.BadEntry))
    ∷ (asks 1 6 (ask.Write (record (one_job 1) { entry = with_a_field_too_many })), to 1 (says.Refused (Some 6) refusals.BadEntry))
    ∷ (asks 1 7 (ask.Read (record (for_job 1) { space = codes "c" })), to 1 (says.Refused (Some 7) refusals.UnknownSpace))
    ∷ (asks 1 8 (ask.Take (record (for_job 1) { template = Some undeclared })), to 1 (says.Refused (Some 8) refusals.UnknownClass))
    ∷ (asks 1 9 (ask.TakeIf (record (for_job 1) { template = Some with_a_text_for_a_number })), to 1 (says.Refused (Some 9) refusals.BadEntry))
    ∷ (asks 1 10 (ask.ReadIf (record (for_job 1) { template = Some with_a_field_too_many })), to 1 (says.Refused (Some 10) refusals.BadEntry))
    ∷ (asks 1 11 (ask.Read (record (for_job 1) { timeout = negsuc 0 })), to 1 (says.Refused (Some 11) refusals.BadTimeout))
    ∷ (gets 1 12 (ask.Take (for_job 1)) (1 ∷ []), to 1 (says.Shown 12 (job 1)))
    ∷ []

pub entries_and_templates_are_checked : Goes entries_refused
unfolding refusal is_quiet due touches said is_legal next
entries_and_templates_are_checked = refl

pub not_given_when_refused : FailsAt 9 (instead 9 (gets 1 9 (ask.TakeIf (record (for_job 1) { template = Some with_a_text_for_a_number })) (1 ∷ [])) entries_refused)
unfolding refusal is_quiet due touches said is_legal next
not_given_when_refused = refl

pub not_given_in_an_unknown_space : FailsAt 7 (instead 7 (gets 1 7 (ask.Read (record (for_job 1) { space = codes "c" })) (1 ∷ [])) entries_refused)
unfolding refusal is_quiet due touches said is_legal next
not_given_in_an_unknown_space = refl

pub not_written_when_refused : FailsAt 12 (instead 12 (gets 1 12 (ask.Take (for_job 1)) (2 ∷ [])) entries_refused)
unfolding refusal is_quiet due touches said is_legal next
not_written_when_refused = refl

-- Worked runs at the limits, each from a state that stands at one of them.
use Rattle.std.specs.Prelude.{refl, pos, negsuc, List, [], ◌∷◌, map, flat_map, Some, None, codes}
use Rattle.std.specs.List.{range_with_len}
use Rattle.jsp_types.specs.declared.value.Kind.TheVariants as kind
use Rattle.jsp_types.specs.declared.entry.Template.TheVariants.{Any}
use Rattle.jsp_wire.specs.declared.ask.Ask.TheVariants as ask
use Rattle.jsp_wire.specs.declared.ask.Version.TheVariants as version
use Rattle.jsp_reply.specs.declared.refusal.Refusal.TheVariants as refusals
use Rattle.jsp_reply.specs.declared.reply.Reply.TheVariants as says
use Rattle.jsp_lease.specs.declared.item.Rank.TheVariants as rank
use Rattle.jsp_model.specs.declared.step.Step.TheVariants as step
use Rattle.jsp_model.specs.declared.state.State.{State}
use Rattle.jsp_model.specs.Quiet.{is_quiet}
use Rattle.jsp_model.specs.Due.{due}
use Rattle.jsp_model.specs.Touches.{touches}
use Rattle.jsp_model.specs.Refusals.{refusal}
use Rattle.jsp_model.specs.Answers.{said}
use Rattle.jsp_model.specs.Steps.{is_legal, next}
use Rattle.jsp_model.proofs.WorkedParts.{Line, start, GoesFrom, FailsAtFrom, instead, before, asks, gets, to, ends, job, declare_job, one_job, for_job, on_jobs, all_jobs, jobs}

-- ---- numbers

-- the numbers 2^62 - 1 and 2^62 are left
abbrev two_numbers_left : State
two_numbers_left = record start { next_number = 4611686018427387903 }

abbrev numbers_used_up : List Line
numbers_used_up =
    (step.Open 1, [])
    ∷ (asks 1 0 (ask.Hello version.Two), to 1 (says.Done 0))
    ∷ (asks 1 1 declare_job, to 1 (says.Done 1))
    ∷ (asks 1 2 (ask.WriteAll (jobs (1 ∷ 2 ∷ 3 ∷ []))), to 1 (says.Refused (Some 2) refusals.UsedUp))
    ∷ (asks 1 3 (ask.WriteAll (jobs (1 ∷ 2 ∷ []))), to 1 (says.Batch 3 (4611686018427387903 ∷ 4611686018427387904 ∷ []) 1000))
    ∷ (asks 1 4 (ask.Write (one_job 1)), to 1 (says.Refused (Some 4) refusals.UsedUp))
    ∷ (asks 1 5 (ask.Txn (pos 1000)), to 1 (says.Refused (Some 5) refusals.UsedUp))
    ∷ (asks 1 6 (ask.Notify (on_jobs (codes "h"))), to 1 (says.Refused (Some 6) refusals.UsedUp))
    ∷ (asks 1 7 (ask.Contents all_jobs), to 1 (says.Refused (Some 7) refusals.UsedUp))
    ∷ (asks 1 8 (ask.Take (record (for_job 5) { timeout = pos 1000 })), to 1 (says.Refused (Some 8) refusals.UsedUp))
    ∷ (asks 1 9 (ask.Take (for_job 5)), to 1 (says.Nothing 9))
    ∷ (gets 1 10 (ask.Take (record (for_job 2) { timeout = pos 1000 })) (4611686018427387904 ∷ []), to 1 (says.Shown 10 (job 2)))
    ∷ []

pub no_number_is_drawn_past_the_last : GoesFrom two_numbers_left numbers_used_up
unfolding refusal is_quiet due touches said is_legal next
no_number_is_drawn_past_the_last = refl

pub not_written_without_a_number : FailsAtFrom two_numbers_left 9 (instead 9 (gets 1 8 (ask.Take (for_job 1)) (4611686018427387905 ∷ [])) numbers_used_up)
unfolding refusal is_quiet due touches said is_legal next
not_written_without_a_number = refl

abbrev one_reset_left : State
one_reset_left = record start { spaces = record { name = codes "a"; crash_count = 4294967294 } ∷ record { name = codes "b"; crash_count = 1 } ∷ [] }

abbrev resets_used_up : List Line
resets_used_up =
    (step.Open 1, [])
    ∷ (asks 1 1 (ask.Reset (codes "a")), to 1 (says.Done 1))
    ∷ (asks 1 2 (ask.Reset (codes "a")), to 1 (says.Refused (Some 2) refusals.UsedUp))
    ∷ (asks 1 3 (ask.Reset (codes "b")), to 1 (says.Done 3))
    ∷ []

pub no_crash_count_passes_the_last : GoesFrom one_reset_left resets_used_up
unfolding refusal is_quiet due touches said is_legal next
no_crash_count_passes_the_last = refl

pub not_a_row_for_a_reset : FailsAtFrom one_reset_left 2 (instead 2 (gets 1 2 (ask.Reset (codes "a")) (1 ∷ [])) resets_used_up)
unfolding refusal is_quiet due touches said is_legal next
not_a_row_for_a_reset = refl

-- ---- tables

abbrev full_of_transactions : State
full_of_transactions =
    record start {
      next_number = 1025;
      transactions = map (λ n. record { number = n; end = 1000; joined = [] }) (range_with_len 1 1024);
    }

abbrev transactions_full : List Line
transactions_full =
    (step.Open 1, [])
    ∷ (asks 1 1 (ask.Txn (negsuc 1)), to 1 (says.Refused (Some 1) refusals.BadLease))
    ∷ (asks 1 2 (ask.Txn (pos 1000)), to 1 (says.Refused (Some 2) refusals.TooMany))
    ∷ (asks 1 3 (ask.Abort (pos 7)), to 1 (says.Done 3))
    ∷ (asks 1 4 (ask.Txn (pos 1000)), to 1 (says.Leased 4 1025 1000))
    ∷ []

pub no_more_than_1024_transactions_live : GoesFrom full_of_transactions transactions_full
unfolding refusal is_quiet due touches said is_legal next
no_more_than_1024_transactions_live = refl

pub not_voted_for_a_refused_transaction : FailsAtFrom full_of_transactions 3 (before 3 (step.Vote 1025 0) transactions_full)
unfolding refusal is_quiet due touches said is_legal next
not_voted_for_a_refused_transaction = refl

abbrev full_of_registrations : State
full_of_registrations =
    record start {
      sessions = record { number = 1; version = version.One } ∷ [];
      last_session = 1;
      next_number = 4097;
      registrations =
          map (λ n. record { number = n; space = 0; template = Any; transaction = None; session = 1; handback = []; end = 1000; sequence = 0; owed = [] })
          (range_with_len 1 4096);
    }

abbrev registrations_full : List Line
registrations_full =
    (asks 1 1 declare_job, to 1 (says.Done 1))
    ∷ (asks 1 2 (ask.Notify (record (on_jobs (codes "h")) { space = codes "b" })), to 1 (says.Refused (Some 2) refusals.TooMany))
    ∷ (asks 1 3 (ask.Cancel (pos 4096)), to 1 (says.Done 3))
    ∷ (asks 1 4 (ask.Notify (record (on_jobs (codes "h")) { space = codes "b" })), to 1 (says.Leased 4 4097 5000))
    ∷ []

pub no_more_than_4096_registrations_live : GoesFrom full_of_registrations registrations_full
unfolding refusal is_quiet due touches said is_legal next
no_more_than_4096_registrations_live = refl

pub not_told_for_a_refused_registration : FailsAtFrom full_of_registrations 2 (before 2 (step.Tell 4097) registrations_full)
unfolding refusal is_quiet due touches said is_legal next
not_told_for_a_refused_registration = refl

abbrev full_of_match_sets : State
full_of_match_sets =
    record start {
      sessions = record { number = 1; version = version.Two } ∷ [];
      last_session = 1;
      next_number = 1025;
      sets =
          map (λ n. record { number = n; session = 1; space = 0; template = Any; transaction = None; end = 1000; cursor = 0 }) (range_with_len 1 1024);
    }

abbrev match_sets_full : List Line
match_sets_full =
    (asks 1 1 declare_job, to 1 (says.Done 1))
    ∷ (asks 1 2 (ask.Contents (record all_jobs { space = codes "b" })), to 1 (says.Refused (Some 2) refusals.TooMany))
    ∷ (asks 1 3 (ask.CloseSet (pos 1)), to 1 (says.Done 3))
    ∷ (asks 1 4 (ask.Contents (record all_jobs { space = codes "b" })), to 1 (says.Leased 4 1025 1000))
    ∷ []

pub no_more_than_1024_match_sets_live : GoesFrom full_of_match_sets match_sets_full
unfolding refusal is_quiet due touches said is_legal next
no_more_than_1024_match_sets_live = refl

pub not_ended_to_make_place : FailsAtFrom full_of_match_sets 1 (before 1 (ends rank.MatchSet 1 1000) match_sets_full)
unfolding refusal is_quiet due touches said is_legal next
not_ended_to_make_place = refl

abbrev full_of_classes : State
full_of_classes =
    record start {
      classes =
          flat_map (λ i. flat_map (λ j. map (λ k. record { name = i ∷ j ∷ k ∷ []; parent = None; fields = [] }) (range_with_len 97 16)) (range_with_len 97 8)) (range_with_len 97 8);
    }

abbrev classes_full : List Line
classes_full =
    (step.Open 1, [])
    ∷ (asks 1 1 declare_job, to 1 (says.Refused (Some 1) refusals.TooMany))
    ∷ (asks 1 2 (ask.Declare (record { class = codes "aaa"; parent = None; fields = [] })), to 1 (says.Done 2))
    ∷ (asks 1 3 (ask.Declare (record { class = codes "aaa"; parent = Some (codes "aab"); fields = [] })), to 1 (says.Refused (Some 3) refusals.Differs))
    ∷ (asks 1 4 (ask.Write (one_job 1)), to 1 (says.Refused (Some 4) refusals.UnknownClass))
    ∷ []

pub no_more_than_1024_classes_are_declared : GoesFrom full_of_classes classes_full
unfolding refusal is_quiet due touches said is_legal next
no_more_than_1024_classes_are_declared = refl

pub not_written_without_its_class : FailsAtFrom full_of_classes 5 (before 5 (gets 1 5 (ask.Take (for_job 1)) (1 ∷ [])) classes_full)
unfolding refusal is_quiet due touches said is_legal next
not_written_without_its_class = refl

-- place for one entry is left
abbrev nearly_full : State
nearly_full =
    record start {
      classes = record { name = codes "Job"; parent = None; fields = (codes "k", kind.Int) ∷ (codes "who", kind.Text) ∷ [] } ∷ [];
      sessions = record { number = 1; version = version.Two } ∷ [];
      last_session = 1;
      next_number = 65536;
      rows = map (λ n. record { number = n; space = 0; entry = job 1; end = 1000; writer = None; readers = []; taker = None }) (range_with_len 1 65535);
    }

abbrev space_full : List Line
space_full =
    (asks 1 3 (ask.WriteAll (jobs (1 ∷ 2 ∷ []))), to 1 (says.Refused (Some 3) refusals.SpaceFull))
    ∷ (asks 1 4 (ask.Write (one_job 1)), to 1 (says.Leased 4 65536 1000))
    ∷ (asks 1 5 (ask.Write (one_job 1)), to 1 (says.Refused (Some 5) refusals.SpaceFull))
    ∷ []

pub no_more_than_65536_entries_are_in_a_space : GoesFrom nearly_full space_full
unfolding refusal is_quiet due touches said is_legal next
no_more_than_65536_entries_are_in_a_space = refl

pub not_written_in_part_where_not_all_fit : FailsAtFrom nearly_full 1 (instead 1 (gets 1 4 (ask.Take (for_job 1)) (65536 ∷ [])) space_full)
unfolding refusal is_quiet due touches said is_legal next
not_written_in_part_where_not_all_fit = refl

-- House time stands still but at readings of the clock.
use Rattle.std.proofs.Common.{◌≡◌, refl, ap, ◌∙◌, ℕ, ℤ, ◌+◌, List, fold, Option, Some, None, is_some}
use Rattle.std.specs.Option.{option_map_or}
use Rattle.jsp_types.specs.Tests.{first_that}
use Rattle.jsp_wire.specs.declared.ask.Ask.{Ask}
use Rattle.jsp_wire.specs.declared.ask.Ask.TheVariants as ask
use Rattle.jsp_reply.specs.declared.refusal.Refusal.{Refusal}
use Rattle.jsp_model.specs.declared.state.State.{State}
use Rattle.jsp_model.specs.declared.state.Blocked.{Blocked}
use Rattle.jsp_model.specs.declared.state.Joined.{Joined}
use Rattle.jsp_model.specs.declared.state.Form.TheVariants as form
use Rattle.jsp_lease.specs.declared.item.Rank.{Rank}
use Rattle.jsp_lease.specs.declared.item.Rank.TheVariants as rank
use Rattle.jsp_lease.specs.Granted.{ms_of}
use Rattle.jsp_model.specs.declared.step.Step.{Step}
use Rattle.jsp_model.specs.declared.step.Step.TheVariants as step
use Rattle.jsp_model.specs.Lookup.{named, rank_of, joined_at, blocked_of}
use Rattle.jsp_model.specs.Refusals.{refusal, renew_tests, lease_tests}
use Rattle.jsp_model.specs.Requests.{WriteRequest, RowRequest, one_entry, all_entries, one_row, many_rows, as_blocked, would_block, caller_of, place_of}
use Rattle.jsp_model.specs.Changes.{join, owe, add_row, new_row, write, give, block, give_or_block, close, forget, committed, published, commit, abort, cast, remove, extend, renew, cancel, renew_one, cancel_one, accepted}
use Rattle.jsp_model.specs.Steps.{after_ask, is_too_long, after_grant, next}
use Rattle.jsp_laws.proofs.Lists.{fold_keeps}
use Rattle.jsp_quiet.proofs.Spaces.{joining}
use Rattle.jsp_quiet.proofs.Placed.{choose}

join_time : (st : State) (o : Option ℕ) (space : ℕ) → (join st o space).time ≡ st.time
join_time st o space = ap (λ (k : State). k.time) (joining st o space).is

remove_time : (st : State) (r : Rank) (n : ℕ) → (remove st r n).time ≡ st.time
remove_time st rank.Entry n = refl
remove_time st rank.Registration n = refl
remove_time st rank.Transaction n = refl
remove_time st rank.Blocked n = refl
remove_time st rank.MatchSet n = refl

pub extend_time : (st : State) (end : ℕ) (r : Rank) (n : ℕ) → (extend st end r n).time ≡ st.time
extend_time st end rank.Entry n = refl
extend_time st end rank.Registration n = refl
extend_time st end rank.Transaction n = refl
extend_time st end rank.Blocked n = refl
extend_time st end rank.MatchSet n = refl

pub renew_time : (st : State) (lease ms : ℤ) → (renew st lease ms).time ≡ st.time
renew_time st lease ms = go (rank_of st (named lease))
  where
    go : (o : Option Rank) → (option_map_or (λ r. extend st (st.time + ms_of ms) r (named lease)) o st).time ≡ st.time
    go None = refl
    go (Some r) = extend_time st _ r (named lease)

cancel_time : (st : State) (lease : ℤ) → (cancel st lease).time ≡ st.time
cancel_time st lease = go (rank_of st (named lease))
  where
    go : (o : Option Rank) → (option_map_or (λ r. remove st r (named lease)) o st).time ≡ st.time
    go None = refl
    go (Some r) = remove_time st r (named lease)

renewals_time : (st : State) (leases : List (ℤ × ℤ)) → (fold renew_one st leases).time ≡ st.time
renewals_time st leases = fold_keeps (λ b. b.time ≡ st.time) renew_one (λ b l e. choose (λ k. k.time ≡ st.time) (is_some (first_that (renew_tests b l.0 l.1))) b (renew b l.0 l.1) e (renew_time b l.0 l.1 ∙ e)) leases st refl

cancels_time : (st : State) (leases : List ℤ) → (fold cancel_one st leases).time ≡ st.time
cancels_time st leases = fold_keeps (λ b. b.time ≡ st.time) cancel_one (λ b l e. choose (λ k. k.time ≡ st.time) (is_some (first_that (lease_tests b l))) b (cancel b l) e (cancel_time b l ∙ e)) leases st refl

write_time : (st : State) (w : WriteRequest) → (write st w).time ≡ st.time
write_time st w = fold_keeps (λ b. b.time ≡ st.time) (λ b raw. add_row b (new_row b w raw)) (λ b raw e. e) w.entries (join st (caller_of w.txn) (place_of st w.space)) (join_time st (caller_of w.txn) (place_of st w.space))

seek_time : (st : State) (s id : ℕ) (q : RowRequest) (ns : List ℕ) → (give_or_block st s id q ns).time ≡ st.time
seek_time st s id q ns =
    let b = as_blocked st s id q in
    let joined = join st (caller_of q.txn) (place_of st q.space) in
    choose (λ k. k.time ≡ st.time) (would_block st s id q) (block joined b) (give joined b ns) (join_time st (caller_of q.txn) (place_of st q.space)) (join_time st (caller_of q.txn) (place_of st q.space))

accepted_time : (st : State) (s id : ℕ) (ns : List ℕ) (a : Ask) → (accepted st s id ns a).time ≡ st.time
accepted_time st s id ns (ask.Write w) = write_time st (one_entry w)
accepted_time st s id ns (ask.Read q) = seek_time st s id (one_row form.Read q) ns
accepted_time st s id ns (ask.ReadIf q) = seek_time st s id (one_row form.ReadIf q) ns
accepted_time st s id ns (ask.Take q) = seek_time st s id (one_row form.Take q) ns
accepted_time st s id ns (ask.TakeIf q) = seek_time st s id (one_row form.TakeIf q) ns
accepted_time st s id ns (ask.Notify q) = join_time st (caller_of q.txn) (place_of st q.space)
accepted_time st s id ns (ask.Renew lease ms) = renew_time st lease ms
accepted_time st s id ns (ask.Cancel lease) = cancel_time st lease
accepted_time st s id ns (ask.RenewAll leases) = renewals_time st leases
accepted_time st s id ns (ask.CancelAll leases) = cancels_time st leases
accepted_time st s id ns (ask.WriteAll w) = write_time st (all_entries w)
accepted_time st s id ns (ask.TakeMany q) = seek_time st s id (many_rows q) ns
accepted_time st s id ns (ask.Contents q) = join_time st (caller_of q.txn) (place_of st q.space)
accepted_time st s id ns _ = refl

asked_time : (st : State) (s id : ℕ) (ns : List ℕ) (a : Ask) (o : Option Refusal) → (after_ask st s id ns a o).time ≡ st.time
asked_time st s id ns a None = accepted_time st s id ns a
asked_time st s id ns a (Some why) = refl

granted_time : (st : State) (n : ℕ) (ns : List ℕ) (o : Option Blocked) → (after_grant st n ns o).time ≡ st.time
granted_time st n ns None = refl
granted_time st n ns (Some b) = refl

cast_time : (st : State) (x : ℕ) (o : Option Joined) → (option_map_or (cast st x) o st).time ≡ st.time
cast_time st x None = refl
cast_time st x (Some j) = refl

commit_time : (st : State) (x : ℕ) → (commit st x).time ≡ st.time
commit_time st x = fold_keeps (λ b. b.time ≡ st.time) (owe None) (λ b r e. e) (published x st.rows) (record (forget st x) { rows = committed x st.rows }) refl

-- of all steps but readings of the clock
abbrev pub StandsStill : State → Step → Type 0
StandsStill st (step.Clock t) = Unit {0}
StandsStill st act = (next st act).time ≡ st.time

pub stands_still : (st : State) (act : Step) → StandsStill st act
unfolding next
stands_still st (step.Clock t) = tt
stands_still st (step.Open s) = refl
stands_still st (step.Shut s) = refl
stands_still st (step.Ask s a ns) = asked_time st s a.id ns a.ask (refusal st s a.id a.ask)
stands_still st (step.Fault s id why) = choose (λ k. k.time ≡ st.time) (is_too_long why) (close st s) st refl refl
stands_still st (step.Grant n ns) = granted_time st n ns (blocked_of st n)
stands_still st (step.Empty n) = refl
stands_still st (step.Tell n) = refl
stands_still st (step.Due item) = remove_time st item.rank item.number
stands_still st (step.Vote x space) = cast_time st x (joined_at st x space)
stands_still st (step.Decide x c) = choose (λ k. k.time ≡ st.time) c (commit st x) (abort st x) (commit_time st x) refl
stands_still st (step.HandOut s n) = refl

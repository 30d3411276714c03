-- Each legal step keeps a steady state steady.
use Rattle.std.proofs.Common.{◌≡◌, refl, sym, ap, ◌∙◌, subst, ℕ, ℤ, ◌+◌, ◌≤◌, ◌^◌, List, [], ◌∷◌, ◌++◌, true, false, ◌&&◌, map, fold, max, min, length, Option, Some, None, is_some, is_none, ◌==◌, nat_lt, arith, eqb-true}
use Rattle.std.specs.Option.{option_map_or}
use Rattle.jsp_types.specs.Tests.{first_that}
use Rattle.jsp_wire.specs.declared.ask.Ask.{Ask}
use Rattle.jsp_wire.specs.declared.ask.Ask.TheVariants as ask
use Rattle.jsp_reply.specs.declared.refusal.Refusal.{Refusal}
use Rattle.jsp_model.specs.declared.state.State.{State}
use Rattle.jsp_model.specs.declared.state.Blocked.{Blocked}
use Rattle.jsp_model.specs.declared.state.Transaction.{Transaction}
use Rattle.jsp_model.specs.declared.state.Joined.{Joined}
use Rattle.jsp_model.specs.declared.state.Form.TheVariants as form
use Rattle.jsp_model.specs.declared.step.Step.{Step}
use Rattle.jsp_model.specs.declared.step.Step.TheVariants as step
use Rattle.jsp_model.specs.Lookup.{empty, contains, named, is_open, is_voting, joined_at, joined_of, blocked_of, crash_count}
use Rattle.jsp_model.specs.Refusals.{tests, refusal, renew_tests, lease_tests}
use Rattle.jsp_model.specs.Requests.{one_entry, all_entries, one_row, many_rows, rows_asked, class_asked, caller_of, place_of}
use Rattle.jsp_model.specs.Changes.{unread, vote_of, is_not_changed, cast, begin, renew, cancel, renew_one, cancel_one, commit, abort, close, accepted}
use Rattle.jsp_model.specs.Steps.{is_choice, has_its_rows, is_legal, after_ask, is_too_long, after_grant, change, next}
use Rattle.jsp_model.specs.Runs.{is_run, state_after}
use Rattle.jsp_model.specs.Due.{due}
use Rattle.jsp_model.specs.Quiet.{are_quiet}
use Rattle.jsp_model.specs.Touches.{touches}
use Rattle.jsp_laws.specs.Commits.{after_vote}
use Rattle.jsp_laws.proofs.Lists.{each_filter, each_touched, each_found, fold_keeps}
use Rattle.jsp_laws.proofs.Change.{Kind, voted}
use Rattle.jsp_laws.proofs.Sound.{IsSound, sound_changes, sound_empty}
use Rattle.jsp_laws.proofs.Made.{Failed, all_failed, caller_lives, choice_available, and_both, second, fourth, is_none_none, found_passes, cancel_changes, sound_step}
use Rattle.jsp_laws.proofs.Joins.{joins_pushed}
use Rattle.jsp_lease.specs.Granted.{ms_of}
use Rattle.jsp_laws.proofs.Rising.{IsRising, rising_step, rising_empty}
use Rattle.jsp_quiet.specs.Steady.{HasJoined, RowFits, RequestFits, IsPlaced, IsSteady}
use Rattle.jsp_quiet.proofs.Spaces.{widens_reshaped, given_there}
use Rattle.jsp_quiet.proofs.Placed.{plain, choose, with_rows, with_blocked, with_transactions, row_unread, placed_close, placed_reset, placed_write, placed_seek, placed_register, placed_open_set, placed_renew, placed_cancel, placed_remove, placed_abort, placed_commit, placed_give}
use Rattle.jsp_quiet.proofs.Descent.{declares, placed_declare}
use Rattle.jsp_quiet.proofs.Time.{stands_still}

placed_begin : (st : State) (lease : ℤ) → IsPlaced st → IsPlaced (begin st lease)
placed_begin st lease h =
    let t : Transaction = record { number = st.next_number; end = st.time + ms_of lease; joined = [] } in
    let p = with_transactions st (st.transactions ++ t ∷ []) (λ x s e. ap (λ js. contains (map (λ j. j.space) js) s) (joins_pushed st.transactions t x refl) ∙ e) h in
    record { rows = p.rows; blocked = p.blocked; parents = p.parents }

placed_renewals : (st : State) (leases : List (ℤ × ℤ)) → IsPlaced st → IsPlaced (fold renew_one st leases)
placed_renewals st leases h = fold_keeps IsPlaced renew_one (λ b l k. choose IsPlaced (is_some (first_that (renew_tests b l.0 l.1))) b (renew b l.0 l.1) k (placed_renew b l.0 l.1 k)) leases st h

placed_cancels : (st : State) (leases : List ℤ) → IsSound st → IsPlaced st → IsPlaced (fold cancel_one st leases)
placed_cancels st leases s h =
    (fold_keeps Both cancel_one (λ b l k. choose Both (is_some (first_that (lease_tests b l))) b (cancel b l) k (sound_changes (cancel_changes {c = plain} b l refl refl) k.0, placed_cancel b l k.0 k.1)) leases st (s, h)).1
  where
    Both : State → Type 0
    Both b = IsSound b × IsPlaced b

placed_accepted : (st : State) (s id : ℕ) (ns : List ℕ) (a : Ask) → IsSound st → IsRising st → Failed (tests st s id a) → has_its_rows st s id ns None (rows_asked a) ≡ true → IsPlaced st → IsPlaced (accepted st s id ns a)
placed_accepted st s id ns (ask.Declare d) k r f e h = placed_declare st _ (declares st.classes (class_asked d) f.1.1.1.0) h
placed_accepted st s id ns (ask.Write w) k r f e h = placed_write st (one_entry w) (caller_lives st.transactions (caller_of w.txn) f.1.1.0) f.1.1.1.1.1.0 h
placed_accepted st s id ns (ask.Read q) k r f e h = placed_seek st s id (one_row form.Read q) ns (caller_lives st.transactions (caller_of q.txn) f.1.1.0) r.rows e h
placed_accepted st s id ns (ask.ReadIf q) k r f e h = placed_seek st s id (one_row form.ReadIf q) ns (caller_lives st.transactions (caller_of q.txn) f.1.1.0) r.rows e h
placed_accepted st s id ns (ask.Take q) k r f e h = placed_seek st s id (one_row form.Take q) ns (caller_lives st.transactions (caller_of q.txn) f.1.1.0) r.rows e h
placed_accepted st s id ns (ask.TakeIf q) k r f e h = placed_seek st s id (one_row form.TakeIf q) ns (caller_lives st.transactions (caller_of q.txn) f.1.1.0) r.rows e h
placed_accepted st s id ns (ask.Notify q) k r f e h = placed_register st s q h
placed_accepted st s id ns (ask.Renew lease ms) k r f e h = placed_renew st lease ms h
placed_accepted st s id ns (ask.Cancel lease) k r f e h = placed_cancel st lease k h
placed_accepted st s id ns (ask.RenewAll leases) k r f e h = placed_renewals st leases h
placed_accepted st s id ns (ask.CancelAll leases) k r f e h = placed_cancels st leases k h
placed_accepted st s id ns (ask.Txn lease) k r f e h = placed_begin st lease h
placed_accepted st s id ns (ask.Commit x) k r f e h = record { rows = h.rows; blocked = each_filter (RequestFits st.transactions) _ st.blocked h.blocked; parents = h.parents }
placed_accepted st s id ns (ask.Abort x) k r f e h = placed_abort st (named x) k h
placed_accepted st s id ns (ask.State x) k r f e h = h
placed_accepted st s id ns (ask.Reset space) k r f e h = placed_reset st (place_of st space) h
placed_accepted st s id ns ask.Spaces k r f e h = h
placed_accepted st s id ns ask.Bye k r f e h = placed_close st s h
placed_accepted st s id ns (ask.Hello v) k r f e h = record { rows = h.rows; blocked = h.blocked; parents = h.parents }
placed_accepted st s id ns (ask.WriteAll w) k r f e h = placed_write st (all_entries w) (caller_lives st.transactions (caller_of w.txn) f.1.1.0) f.1.1.1.1.1.0 h
placed_accepted st s id ns (ask.TakeMany q) k r f e h = placed_seek st s id (many_rows q) ns (caller_lives st.transactions (caller_of q.txn) f.1.1.0) r.rows e h
placed_accepted st s id ns (ask.Contents q) k r f e h = placed_open_set st s q h
placed_accepted st s id ns (ask.Next set most) k r f e h = record { rows = h.rows; blocked = h.blocked; parents = h.parents }
placed_accepted st s id ns (ask.CloseSet set) k r f e h = record { rows = h.rows; blocked = h.blocked; parents = h.parents }

placed_asked : (st : State) (s id : ℕ) (ns : List ℕ) (a : Ask) (o : Option Refusal) → refusal st s id a ≡ o → has_its_rows st s id ns o (rows_asked a) ≡ true → IsSound st → IsRising st → IsPlaced st → IsPlaced (after_ask st s id ns a o)
unfolding refusal
placed_asked st s id ns a None k e s' r h = placed_accepted st s id ns a s' r (all_failed (tests st s id a) k) e h
placed_asked st s id ns a (Some why) k e s' r h = h

placed_granted : (st : State) (n : ℕ) (ns : List ℕ) (o : Option Blocked) → IsRising st → blocked_of st n ≡ o → option_map_or (λ b. nat_lt 0 (length ns) && is_choice st b ns) o false ≡ true → IsPlaced st → IsPlaced (after_grant st n ns o)
placed_granted st n ns None r k e h = h
placed_granted st n ns (Some b) r k e h =
    let j : HasJoined st.transactions b.transaction b.space = (each_found (RequestFits st.transactions) (λ b. b.number == n) st.blocked b h.blocked k).0 in
    let a : is_choice st b ns ≡ true = (and_both (nat_lt 0 (length ns)) (is_choice st b ns) e).1 in
    with_blocked _ _ (placed_give st b ns (given_there st b ns r.rows (choice_available st b ns a)) j h)

placed_cast : (st : State) (x space : ℕ) (o : Option Joined) → joined_at st x space ≡ o → option_map_or (λ j. is_none j.vote) o false ≡ true → IsPlaced st → IsPlaced (option_map_or (cast st x) o st)
placed_cast st x space None k e h = h
placed_cast st x space (Some j) k e h =
    let here : j.space ≡ space = eqb-true j.space space (found_passes (λ i. i.space == space) (joined_of st x) j k) in
    let at : joined_at st x j.space ≡ Some j = subst (λ z. joined_at st x z ≡ Some j) (sym here) k in
    let kind : Kind = record { committed = None; asked = None; aborting = false; vote = Some (x, j.space, crash_count st j.space); recorded = Some (after_vote st x j); released = None; told = None; owing = false; opening = false; turned = None } in
    let p = with_transactions st _ (widens_reshaped {c = kind} {st = st} (voted x j at (is_none_none j.vote e) refl refl)) h in
    with_rows _ _ (each_touched (RowFits st.classes (cast st x j).transactions) (λ row. is_not_changed (vote_of st x j) && row.space == j.space) (unread x) (row_unread st.classes (cast st x j).transactions x) st.rows p.rows) p

placed_change : (st : State) (act : Step) → is_legal st act ≡ true → IsSound st → IsRising st → IsPlaced st → IsPlaced (change st act)
unfolding is_legal
placed_change st (step.Open s) e k r h = record { rows = h.rows; blocked = h.blocked; parents = h.parents }
placed_change st (step.Shut s) e k r h = placed_close st s h
placed_change st (step.Clock t) e k r h = record { rows = h.rows; blocked = h.blocked; parents = h.parents }
placed_change st (step.Ask s a ns) e k r h = placed_asked st s a.id ns a.ask (refusal st s a.id a.ask) refl (fourth (is_open st s) (is_none (due st)) (are_quiet st (touches st (step.Ask s a ns))) (has_its_rows st s a.id ns (refusal st s a.id a.ask) (rows_asked a.ask)) e) k r h
placed_change st (step.Fault s id why) e k r h = choose IsPlaced (is_too_long why) (close st s) st (placed_close st s h) h
placed_change st (step.Grant n ns) e k r h = placed_granted st n ns (blocked_of st n) r refl e h
placed_change st (step.Empty n) e k r h = with_blocked st _ h
placed_change st (step.Tell n) e k r h = record { rows = h.rows; blocked = h.blocked; parents = h.parents }
placed_change st (step.Due item) e k r h = placed_remove st item.rank item.number k h
placed_change st (step.Vote x space) e k r h = placed_cast st x space (joined_at st x space) refl (second (is_voting st x) (option_map_or (λ j. is_none j.vote) (joined_at st x space) false) (are_quiet st (touches st (step.Vote x space))) e) h
placed_change st (step.Decide x c) e k r h = choose IsPlaced c (commit st x) (abort st x) (placed_commit st x k h) (placed_abort st x k h)
placed_change st (step.HandOut s n) e k r h = h

placed_step : (st : State) (act : Step) → is_legal st act ≡ true → IsSound st → IsRising st → IsPlaced st → IsPlaced (next st act)
unfolding next
placed_step st act e k r h = let p = placed_change st act e k r h in record { rows = p.rows; blocked = p.blocked; parents = p.parents }

-- ---- time

pub within_reach : (now t m : ℕ) → now ≤ m → max now (min t m) ≤ m
within_reach now t m h = omega arith

kept : (st : State) (act : Step) → (next st act).time ≡ st.time → st.time ≤ 2 ^ 62 → (next st act).time ≤ 2 ^ 62
kept st act e h = subst (λ t. t ≤ 2 ^ 62) (sym e) h

time_step : (st : State) (act : Step) → st.time ≤ 2 ^ 62 → (next st act).time ≤ 2 ^ 62
unfolding next
time_step st (step.Clock t) h = within_reach st.time t (2 ^ 62) h
time_step st (step.Open s) h = h
time_step st (step.Shut s) h = h
time_step st (step.Ask s a ns) h = kept st (step.Ask s a ns) (stands_still st (step.Ask s a ns)) h
time_step st (step.Fault s id why) h = kept st (step.Fault s id why) (stands_still st (step.Fault s id why)) h
time_step st (step.Grant n ns) h = kept st (step.Grant n ns) (stands_still st (step.Grant n ns)) h
time_step st (step.Empty n) h = h
time_step st (step.Tell n) h = h
time_step st (step.Due item) h = kept st (step.Due item) (stands_still st (step.Due item)) h
time_step st (step.Vote x space) h = kept st (step.Vote x space) (stands_still st (step.Vote x space)) h
time_step st (step.Decide x c) h = kept st (step.Decide x c) (stands_still st (step.Decide x c)) h
time_step st (step.HandOut s n) h = h

-- ---- all of it

pub steady_step : (st : State) (act : Step) → is_legal st act ≡ true → IsSteady st → IsSteady (next st act)
steady_step st act e h = record {
  sound = sound_step st act e h.sound;
  rising = rising_step st act e h.sound h.rising;
  placed = placed_step st act e h.sound h.rising h.placed;
  time = time_step st act h.time;
}

pub steady_empty : (names : List (List ℕ)) → IsSteady (empty names)
steady_empty names = record {
  sound = sound_empty names;
  rising = rising_empty names;
  placed = record { rows = tt; blocked = tt; parents = λ name p e. absurd (cc) };
  time = omega arith;
}

pub steady_run : (st : State) (steps : List Step) → is_run st steps ≡ true → IsSteady st → IsSteady (state_after st steps)
steady_run st [] run h = h
steady_run st (act ∷ steps) run h =
    let both : (is_legal st act ≡ true) × (is_run (next st act) steps ≡ true) = and_both (is_legal st act) (is_run (next st act) steps) run in
    steady_run (next st act) steps both.1 (steady_step st act both.0 h)

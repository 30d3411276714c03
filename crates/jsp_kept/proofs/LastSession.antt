-- The greatest number of a session changes with an Open alone, so the steps that were asked for tell it.
use Rattle.std.proofs.Common.{◌≡◌, ℕ, ℤ, ◌+◌, ◌++◌, Bool, true, false, List, [], ◌∷◌, Option, Some, None, cond, refl, ap, sym, ◌∙◌}
use Rattle.std.specs.Prelude.{fold, is_some, ◌==◌}
use Rattle.std.specs.Option.{option_map_or}
use Rattle.jsp_types.specs.declared.entry.Raw.{Raw}
use Rattle.jsp_wire.specs.declared.ask.Ask.{Ask}
use Rattle.jsp_wire.specs.declared.ask.Ask.TheVariants as ask
use Rattle.jsp_reply.specs.declared.refusal.Refusal.{Refusal}
use Rattle.jsp_model.specs.declared.state.State.{State}
use Rattle.jsp_model.specs.declared.state.Blocked.{Blocked}
use Rattle.jsp_model.specs.declared.state.Transaction.{Transaction}
use Rattle.jsp_model.specs.declared.state.Form.TheVariants as form
use Rattle.jsp_model.specs.declared.step.Step.{Step}
use Rattle.jsp_model.specs.declared.step.Step.TheVariants as step
use Rattle.jsp_lease.specs.declared.item.Rank.{Rank}
use Rattle.jsp_lease.specs.declared.item.Rank.TheVariants as rank
use Rattle.jsp_lease.specs.Granted.{ms_of}
use Rattle.jsp_model.specs.Lookup.{named, update, blocked_of, joined_at, rank_of}
use Rattle.jsp_model.specs.Refusals.{refusal, renew_tests, lease_tests}
use Rattle.jsp_model.specs.Requests.{WriteRequest, RowRequest, one_row, many_rows, one_entry, all_entries, would_block, as_blocked, caller_of, place_of}
use Rattle.jsp_types.specs.Tests.{first_that}
use Rattle.jsp_model.specs.Changes.{close, newly_joined, join, owe, add_row, new_row, write, block, give, give_or_block, remove, extend, renew, renew_one, cancel, cancel_one, forget, commit, committed, published, cast, abort, accepted}
use Rattle.jsp_model.specs.Steps.{next, after_ask, after_grant, is_too_long}
use Rattle.jsp_model.specs.Runs.{state_after}
use Rattle.jsp_model.specs.House.{is_unasked, bare, own_of}

abbrev Same : State → State → Type 0
Same old new = new.last_session ≡ old.last_session

either : (st : State) (b : Bool) (x y : State) → Same st x → Same st y → Same st (cond b x y)
either st true x y p q = p
either st false x y p q = q

folded : {A : Type 0} (f : State → A → State) (xs : List A) (st now : State) → ((st : State) (x : A) → Same st (f st x)) → Same st now → Same st (fold f now xs)
folded f [] st now each h = h
folded f (x ∷ xs) st now each h = folded f xs st (f now x) each (each now x ∙ h)

perhaps : {A : Type 0} (f : A → State) (o : Option A) (st : State) → ((x : A) → Same st (f x)) → Same st (option_map_or f o st)
perhaps f None st each = refl
perhaps f (Some x) st each = each x

join_keeps : (st : State) (x : Option ℕ) (space : ℕ) → Same st (join st x space)
join_keeps st None space = refl
join_keeps st (Some x) space =
    either st (is_some (joined_at st x space)) st
    (record st { transactions = update (λ t. t.number == x) (λ (t : Transaction). record t { joined = t.joined ++ newly_joined st space ∷ [] }) st.transactions })
    refl refl

write_keeps : (st : State) (w : WriteRequest) → Same st (write st w)
write_keeps st w =
    folded (λ (st : State) (raw : Raw). add_row st (new_row st w raw)) w.entries st (join st (caller_of w.txn) (place_of st w.space))
    (λ st raw. refl)
    (join_keeps st (caller_of w.txn) (place_of st w.space))

rows_keep : (st : State) (s id : ℕ) (q : RowRequest) (ns : List ℕ) → Same st (give_or_block st s id q ns)
rows_keep st s id q ns =
    let b = as_blocked st s id q in
    let joined = join st b.transaction b.space in
    let kept = join_keeps st b.transaction b.space in
    either st (would_block st s id q) (block joined b) (give joined b ns) kept kept

remove_keeps : (st : State) (r : Rank) (n : ℕ) → Same st (remove st r n)
remove_keeps st rank.Entry n = refl
remove_keeps st rank.Registration n = refl
remove_keeps st rank.Transaction n = refl
remove_keeps st rank.Blocked n = refl
remove_keeps st rank.MatchSet n = refl

extend_keeps : (st : State) (end : ℕ) (r : Rank) (n : ℕ) → Same st (extend st end r n)
extend_keeps st end rank.Entry n = refl
extend_keeps st end rank.Registration n = refl
extend_keeps st end rank.Transaction n = refl
extend_keeps st end rank.Blocked n = refl
extend_keeps st end rank.MatchSet n = refl

renew_keeps : (st : State) (lease ms : ℤ) → Same st (renew st lease ms)
renew_keeps st lease ms = perhaps _ (rank_of st (named lease)) st (λ r. extend_keeps st (st.time + ms_of ms) r (named lease))

cancel_keeps : (st : State) (lease : ℤ) → Same st (cancel st lease)
cancel_keeps st lease = perhaps _ (rank_of st (named lease)) st (λ r. remove_keeps st r (named lease))

renew_one_keeps : (st : State) (l : ℤ × ℤ) → Same st (renew_one st l)
renew_one_keeps st l = either st (is_some (first_that (renew_tests st l.0 l.1))) st (renew st l.0 l.1) refl (renew_keeps st l.0 l.1)

cancel_one_keeps : (st : State) (lease : ℤ) → Same st (cancel_one st lease)
cancel_one_keeps st lease = either st (is_some (first_that (lease_tests st lease))) st (cancel st lease) refl (cancel_keeps st lease)

commit_keeps : (st : State) (x : ℕ) → Same st (commit st x)
commit_keeps st x = folded (owe None) (published x st.rows) st (record (forget st x) { rows = committed x st.rows }) (λ st row. refl) refl

accepted_keeps : (st : State) (s id : ℕ) (ns : List ℕ) (a : Ask) → Same st (accepted st s id ns a)
accepted_keeps st s id ns (ask.Declare d) = refl
accepted_keeps st s id ns (ask.Write w) = write_keeps st (one_entry w)
accepted_keeps st s id ns (ask.Read q) = rows_keep st s id (one_row form.Read q) ns
accepted_keeps st s id ns (ask.ReadIf q) = rows_keep st s id (one_row form.ReadIf q) ns
accepted_keeps st s id ns (ask.Take q) = rows_keep st s id (one_row form.Take q) ns
accepted_keeps st s id ns (ask.TakeIf q) = rows_keep st s id (one_row form.TakeIf q) ns
accepted_keeps st s id ns (ask.Notify q) = join_keeps st (caller_of q.txn) (place_of st q.space)
accepted_keeps st s id ns (ask.Renew lease ms) = renew_keeps st lease ms
accepted_keeps st s id ns (ask.Cancel lease) = cancel_keeps st lease
accepted_keeps st s id ns (ask.RenewAll leases) = folded renew_one leases st st renew_one_keeps refl
accepted_keeps st s id ns (ask.CancelAll leases) = folded cancel_one leases st st cancel_one_keeps refl
accepted_keeps st s id ns (ask.Txn lease) = refl
accepted_keeps st s id ns (ask.Commit x) = refl
accepted_keeps st s id ns (ask.Abort x) = refl
accepted_keeps st s id ns (ask.State x) = refl
accepted_keeps st s id ns (ask.Reset space) = refl
accepted_keeps st s id ns ask.Spaces = refl
accepted_keeps st s id ns ask.Bye = refl
accepted_keeps st s id ns (ask.Hello v) = refl
accepted_keeps st s id ns (ask.WriteAll w) = write_keeps st (all_entries w)
accepted_keeps st s id ns (ask.TakeMany q) = rows_keep st s id (many_rows q) ns
accepted_keeps st s id ns (ask.Contents q) = join_keeps st (caller_of q.txn) (place_of st q.space)
accepted_keeps st s id ns (ask.Next set most) = refl
accepted_keeps st s id ns (ask.CloseSet set) = refl

asked_keeps : (st : State) (s id : ℕ) (ns : List ℕ) (a : Ask) (r : Option Refusal) → Same st (after_ask st s id ns a r)
asked_keeps st s id ns a None = accepted_keeps st s id ns a
asked_keeps st s id ns a (Some r) = refl

granted_keep : (st : State) (n : ℕ) (ns : List ℕ) (b : Option Blocked) → Same st (after_grant st n ns b)
granted_keep st n ns None = refl
granted_keep st n ns (Some b) = refl

-- ---- a step, and a run

-- the greatest number of a session after a step
abbrev pub last_after : ℕ → Step → ℕ
last_after last (step.Open s) = s
last_after last _ = last

pub last_step : (st : State) (x : Step) → (next st x).last_session ≡ last_after st.last_session x
unfolding next
last_step st (step.Open s) = refl
last_step st (step.Shut s) = refl
last_step st (step.Clock t) = refl
last_step st (step.Ask s a ns) = asked_keeps st s a.id ns a.ask (refusal st s a.id a.ask)
last_step st (step.Fault s id r) = either st (is_too_long r) (close st s) st refl refl
last_step st (step.Grant n ns) = granted_keep st n ns (blocked_of st n)
last_step st (step.Empty n) = refl
last_step st (step.Tell n) = refl
last_step st (step.Due item) = remove_keeps st item.rank item.number
last_step st (step.Vote x space) = perhaps (cast st x) (joined_at st x space) st (λ j. refl)
last_step st (step.Decide x commits) = either st commits (commit st x) (abort st x) (commit_keeps st x) refl
last_step st (step.HandOut s n) = refl

last_bare : (last : ℕ) (x : Step) → last_after last (bare x) ≡ last_after last x
last_bare last (step.Open s) = refl
last_bare last (step.Shut s) = refl
last_bare last (step.Clock t) = refl
last_bare last (step.Ask s a ns) = refl
last_bare last (step.Fault s id r) = refl
last_bare last (step.Grant n ns) = refl
last_bare last (step.Empty n) = refl
last_bare last (step.Tell n) = refl
last_bare last (step.Due item) = refl
last_bare last (step.Vote x space) = refl
last_bare last (step.Decide x commits) = refl
last_bare last (step.HandOut s n) = refl

last_unasked : (last : ℕ) (x : Step) → is_unasked x ≡ true → last_after last x ≡ last
last_unasked last (step.Grant n ns) h = refl
last_unasked last (step.Empty n) h = refl
last_unasked last (step.Tell n) h = refl
last_unasked last (step.Due item) h = refl
last_unasked last (step.Open s) h = cc (h)
last_unasked last (step.Shut s) h = refl
last_unasked last (step.Clock t) h = refl
last_unasked last (step.Ask s a ns) h = refl
last_unasked last (step.Fault s id r) h = refl
last_unasked last (step.Vote x space) h = refl
last_unasked last (step.Decide x commits) h = refl
last_unasked last (step.HandOut s n) h = refl

abbrev pub last_by : ℕ → List Step → ℕ
last_by last [] = last
last_by last (x ∷ xs) = last_by (last_after last x) xs

own_at : (b : Bool) (last : ℕ) (x : Step) (xs : List Step) → is_unasked x ≡ b → last_by (last_after last x) (own_of xs) ≡ last_by last (own_of (x ∷ xs))
own_at true last x xs is = rw is (ap (λ n. last_by n (own_of xs)) (last_unasked last x is))
own_at false last x xs is = rw is (ap (λ n. last_by n (own_of xs)) (sym (last_bare last x)))

pub last_run : (st : State) (xs : List Step) → (state_after st xs).last_session ≡ last_by st.last_session (own_of xs)
last_run st [] = refl
last_run st (x ∷ xs) =
    last_run (next st x) xs ∙ (ap (λ n. last_by n (own_of xs)) (last_step st x) ∙ own_at (is_unasked x) st.last_session x xs refl)

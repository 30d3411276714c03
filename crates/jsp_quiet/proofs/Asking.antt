-- What each waiting request is over a step, if each was so and each new one is. So each asks for at least one row, if it was asked so.
use Rattle.std.proofs.Common.{◌≡◌, refl, sym, subst, ℕ, ℤ, ◌+◌, ◌≤◌, List, [], ◌∷◌, true, false, Option, Some, None, is_some, nat_le, Bool, cond}
use Rattle.std.specs.Prelude.{IfSome}
use Rattle.std.specs.Option.{option_map_or}
use Rattle.std.proofs.lemmas.Bool.{leb-true}
use Rattle.jsp_types.specs.Tests.{first_that}
use Rattle.jsp_wire.specs.declared.ask.Ask.{Ask}
use Rattle.jsp_wire.specs.declared.ask.Ask.TheVariants as ask
use Rattle.jsp_reply.specs.declared.refusal.Refusal.{Refusal}
use Rattle.jsp_model.specs.declared.state.State.{State}
use Rattle.jsp_model.specs.declared.state.Blocked.{Blocked}
use Rattle.jsp_model.specs.declared.state.Joined.{Joined}
use Rattle.jsp_model.specs.declared.state.Form.TheVariants as form
use Rattle.jsp_lease.specs.declared.item.Rank.{Rank}
use Rattle.jsp_lease.specs.declared.item.Rank.TheVariants as rank
use Rattle.jsp_lease.specs.Granted.{ms_of}
use Rattle.jsp_model.specs.declared.step.Step.{Step}
use Rattle.jsp_model.specs.declared.step.Step.TheVariants as step
use Rattle.jsp_model.specs.Lookup.{named, rank_of, joined_at, blocked_of}
use Rattle.jsp_model.specs.Refusals.{refusal, renew_tests, lease_tests}
use Rattle.jsp_model.specs.Requests.{WriteRequest, RowRequest, one_entry, all_entries, one_row, many_rows, rows_asked, as_blocked, would_block, caller_of, place_of}
use Rattle.jsp_model.specs.Changes.{join, owe, add_row, new_row, write, give, block, give_or_block, close, forget, committed, published, commit, abort, cast, remove, extend, renew, cancel, renew_one, cancel_one, accepted}
use Rattle.jsp_model.specs.Steps.{after_ask, is_too_long, after_grant, next}
use Rattle.jsp_laws.proofs.Lists.{Each, each_filter, each_append, fold_keeps}
use Rattle.jsp_quiet.specs.Quieting.{asks_for_some, AllAskForSome}
use Rattle.jsp_quiet.proofs.Spaces.{joining}
use Rattle.jsp_quiet.proofs.Placed.{choose}

-- each waiting request is so
abbrev AllBlocked : (Blocked → Type 0) → State → Type 0
AllBlocked P st = Each P st.blocked

-- a request for rows that the step asks is so, if it has to wait
abbrev pub Asked : (Blocked → Type 0) → State → Step → Type 0
Asked P st (step.Ask s asked ns) = IfSome (rows_asked asked.ask) (λ q. would_block st s asked.id q ≡ true → P (as_blocked st s asked.id q))
Asked P st _ = Unit {0}

blocked_join : (P : Blocked → Type 0) (st : State) (o : Option ℕ) (space : ℕ) → AllBlocked P st → AllBlocked P (join st o space)
blocked_join P st o space h = subst (AllBlocked P) (sym (joining st o space).is) h

blocked_remove : (P : Blocked → Type 0) (st : State) (r : Rank) (n : ℕ) → AllBlocked P st → AllBlocked P (remove st r n)
blocked_remove P st rank.Entry n h = h
blocked_remove P st rank.Registration n h = h
blocked_remove P st rank.Transaction n h = each_filter P _ st.blocked h
blocked_remove P st rank.Blocked n h = each_filter P _ st.blocked h
blocked_remove P st rank.MatchSet n h = h

blocked_extend : (P : Blocked → Type 0) (st : State) (end : ℕ) (r : Rank) (n : ℕ) → AllBlocked P st → AllBlocked P (extend st end r n)
blocked_extend P st end rank.Entry n h = h
blocked_extend P st end rank.Registration n h = h
blocked_extend P st end rank.Transaction n h = h
blocked_extend P st end rank.Blocked n h = h
blocked_extend P st end rank.MatchSet n h = h

blocked_renew : (P : Blocked → Type 0) (st : State) (lease ms : ℤ) → AllBlocked P st → AllBlocked P (renew st lease ms)
blocked_renew P st lease ms h = go (rank_of st (named lease))
  where
    go : (o : Option Rank) → AllBlocked P (option_map_or (λ r. extend st (st.time + ms_of ms) r (named lease)) o st)
    go None = h
    go (Some r) = blocked_extend P st _ r (named lease) h

blocked_cancel : (P : Blocked → Type 0) (st : State) (lease : ℤ) → AllBlocked P st → AllBlocked P (cancel st lease)
blocked_cancel P st lease h = go (rank_of st (named lease))
  where
    go : (o : Option Rank) → AllBlocked P (option_map_or (λ r. remove st r (named lease)) o st)
    go None = h
    go (Some r) = blocked_remove P st r (named lease) h

blocked_write : (P : Blocked → Type 0) (st : State) (w : WriteRequest) → AllBlocked P st → AllBlocked P (write st w)
blocked_write P st w h = fold_keeps (AllBlocked P) (λ b raw. add_row b (new_row b w raw)) (λ b raw k. k) w.entries (join st (caller_of w.txn) (place_of st w.space)) (blocked_join P st (caller_of w.txn) (place_of st w.space) h)

-- what both cases have, each where it is met
pub choose_by : (P : State → Type 0) (d : Bool) (x y : State) → (d ≡ true → P x) → (d ≡ false → P y) → P (cond d x y)
choose_by P true x y p q = p refl
choose_by P false x y p q = q refl

blocked_seek : (P : Blocked → Type 0) (st : State) (s id : ℕ) (q : RowRequest) (ns : List ℕ) → (would_block st s id q ≡ true → P (as_blocked st s id q)) → AllBlocked P st → AllBlocked P (give_or_block st s id q ns)
blocked_seek P st s id q ns p h =
    let b = as_blocked st s id q in
    let joined = join st (caller_of q.txn) (place_of st q.space) in
    let k : AllBlocked P joined = blocked_join P st (caller_of q.txn) (place_of st q.space) h in
    choose_by (AllBlocked P) (would_block st s id q) (block joined b) (give joined b ns) (λ e. each_append P joined.blocked (b ∷ []) k (p e, tt)) (λ e. k)

blocked_accepted : (P : Blocked → Type 0) (st : State) (s id : ℕ) (ns : List ℕ) (a : Ask) → IfSome (rows_asked a) (λ q. would_block st s id q ≡ true → P (as_blocked st s id q)) → AllBlocked P st → AllBlocked P (accepted st s id ns a)
blocked_accepted P st s id ns (ask.Write w) p h = blocked_write P st (one_entry w) h
blocked_accepted P st s id ns (ask.Read q) p h = blocked_seek P st s id (one_row form.Read q) ns p h
blocked_accepted P st s id ns (ask.ReadIf q) p h = blocked_seek P st s id (one_row form.ReadIf q) ns p h
blocked_accepted P st s id ns (ask.Take q) p h = blocked_seek P st s id (one_row form.Take q) ns p h
blocked_accepted P st s id ns (ask.TakeIf q) p h = blocked_seek P st s id (one_row form.TakeIf q) ns p h
blocked_accepted P st s id ns (ask.TakeMany q) p h = blocked_seek P st s id (many_rows q) ns p h
blocked_accepted P st s id ns (ask.WriteAll w) p h = blocked_write P st (all_entries w) h
blocked_accepted P st s id ns (ask.Notify q) p h = blocked_join P st (caller_of q.txn) (place_of st q.space) h
blocked_accepted P st s id ns (ask.Contents q) p h = blocked_join P st (caller_of q.txn) (place_of st q.space) h
blocked_accepted P st s id ns (ask.Renew lease ms) p h = blocked_renew P st lease ms h
blocked_accepted P st s id ns (ask.Cancel lease) p h = blocked_cancel P st lease h
blocked_accepted P st s id ns (ask.RenewAll leases) p h = fold_keeps (AllBlocked P) renew_one (λ b l k. choose (AllBlocked P) (is_some (first_that (renew_tests b l.0 l.1))) b (renew b l.0 l.1) k (blocked_renew P b l.0 l.1 k)) leases st h
blocked_accepted P st s id ns (ask.CancelAll leases) p h = fold_keeps (AllBlocked P) cancel_one (λ b l k. choose (AllBlocked P) (is_some (first_that (lease_tests b l))) b (cancel b l) k (blocked_cancel P b l k)) leases st h
blocked_accepted P st s id ns (ask.Commit x) p h = each_filter P _ st.blocked h
blocked_accepted P st s id ns (ask.Abort x) p h = each_filter P _ st.blocked h
blocked_accepted P st s id ns (ask.Reset space) p h = each_filter P _ st.blocked h
blocked_accepted P st s id ns ask.Bye p h = each_filter P _ st.blocked h
blocked_accepted P st s id ns (ask.Declare d) p h = h
blocked_accepted P st s id ns (ask.Txn lease) p h = h
blocked_accepted P st s id ns (ask.State x) p h = h
blocked_accepted P st s id ns ask.Spaces p h = h
blocked_accepted P st s id ns (ask.Hello v) p h = h
blocked_accepted P st s id ns (ask.Next set most) p h = h
blocked_accepted P st s id ns (ask.CloseSet set) p h = h

blocked_asked : (P : Blocked → Type 0) (st : State) (s id : ℕ) (ns : List ℕ) (a : Ask) (o : Option Refusal) → IfSome (rows_asked a) (λ q. would_block st s id q ≡ true → P (as_blocked st s id q)) → AllBlocked P st → AllBlocked P (after_ask st s id ns a o)
blocked_asked P st s id ns a None p h = blocked_accepted P st s id ns a p h
blocked_asked P st s id ns a (Some why) p h = h

blocked_granted : (P : Blocked → Type 0) (st : State) (n : ℕ) (ns : List ℕ) (o : Option Blocked) → AllBlocked P st → AllBlocked P (after_grant st n ns o)
blocked_granted P st n ns None h = h
blocked_granted P st n ns (Some b) h = each_filter P _ st.blocked h

blocked_cast : (P : Blocked → Type 0) (st : State) (x : ℕ) (o : Option Joined) → AllBlocked P st → AllBlocked P (option_map_or (cast st x) o st)
blocked_cast P st x None h = h
blocked_cast P st x (Some j) h = h

blocked_commit : (P : Blocked → Type 0) (st : State) (x : ℕ) → AllBlocked P st → AllBlocked P (commit st x)
blocked_commit P st x h = fold_keeps (AllBlocked P) (owe None) (λ b r k. k) (published x st.rows) (record (forget st x) { rows = committed x st.rows }) (each_filter P _ st.blocked h)

pub blocked_step : (P : Blocked → Type 0) (st : State) (act : Step) → Asked P st act → AllBlocked P st → AllBlocked P (next st act)
unfolding next
blocked_step P st (step.Ask s a ns) p h = blocked_asked P st s a.id ns a.ask (refusal st s a.id a.ask) p h
blocked_step P st (step.Open s) p h = h
blocked_step P st (step.Shut s) p h = each_filter P _ st.blocked h
blocked_step P st (step.Clock t) p h = h
blocked_step P st (step.Fault s id why) p h = choose (AllBlocked P) (is_too_long why) (close st s) st (each_filter P _ st.blocked h) h
blocked_step P st (step.Grant n ns) p h = blocked_granted P st n ns (blocked_of st n) h
blocked_step P st (step.Empty n) p h = each_filter P _ st.blocked h
blocked_step P st (step.Tell n) p h = h
blocked_step P st (step.Due item) p h = blocked_remove P st item.rank item.number h
blocked_step P st (step.Vote x space) p h = blocked_cast P st x (joined_at st x space) h
blocked_step P st (step.Decide x c) p h = choose (AllBlocked P) c (commit st x) (abort st x) (blocked_commit P st x h) (each_filter P _ st.blocked h)
blocked_step P st (step.HandOut s n) p h = h

-- ---- requests for at least one row

abbrev AsksSome : Blocked → Type 0
AsksSome b = 1 ≤ b.most

some_asked : (st : State) (s id : ℕ) (o : Option RowRequest) → option_map_or (λ q. nat_le 1 q.most) o true ≡ true → IfSome o (λ q. would_block st s id q ≡ true → AsksSome (as_blocked st s id q))
some_asked st s id None e = tt
some_asked st s id (Some q) e = λ w. leb-true 1 q.most e

asked_some : (st : State) (act : Step) → asks_for_some act ≡ true → Asked AsksSome st act
asked_some st (step.Ask s a ns) e = some_asked st s a.id (rows_asked a.ask) e
asked_some st _ e = tt

pub asking_stays : (st : State) (act : Step) → asks_for_some act ≡ true → AllAskForSome st → AllAskForSome (next st act)
asking_stays st act e h = blocked_step AsksSome st act (asked_some st act e) h

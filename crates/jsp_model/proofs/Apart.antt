-- What waits to be handed out decides nothing: with other outboxes a state is changed alike, and the outboxes stay.
use Rattle.std.proofs.Common.{◌≡◌, ℕ, ℤ, ◌+◌, Bool, true, false, List, [], ◌∷◌, Option, Some, None, cond, refl, ap, sym, ◌∙◌}
use Rattle.std.specs.Prelude.{fold, is_some}
use Rattle.std.specs.Option.{option_map_or}
use Rattle.jsp_types.specs.Tests.{first_that}
use Rattle.jsp_wire.specs.declared.ask.Ask.{Ask}
use Rattle.jsp_wire.specs.declared.ask.Ask.TheVariants as ask
use Rattle.jsp_wire.specs.declared.ask.Notify.{Notify}
use Rattle.jsp_wire.specs.declared.ask.Contents.{Contents}
use Rattle.jsp_reply.specs.declared.refusal.Refusal.{Refusal}
use Rattle.jsp_lease.specs.declared.item.Rank.{Rank}
use Rattle.jsp_lease.specs.declared.item.Rank.TheVariants as rank
use Rattle.jsp_model.specs.declared.state.State.{State}
use Rattle.jsp_model.specs.declared.state.Outbox.{Outbox}
use Rattle.jsp_model.specs.declared.state.Blocked.{Blocked}
use Rattle.jsp_model.specs.declared.state.Joined.{Joined}
use Rattle.jsp_model.specs.declared.state.Form.TheVariants as form
use Rattle.jsp_model.specs.declared.step.Step.{Step}
use Rattle.jsp_model.specs.declared.step.Step.TheVariants as step
use Rattle.jsp_lease.specs.Granted.{ms_of}
use Rattle.jsp_model.specs.Lookup.{named, rank_of, joined_at, blocked_of}
use Rattle.jsp_model.specs.Requests.{WriteRequest, RowRequest, one_row, many_rows, one_entry, all_entries, caller_of, place_of, as_blocked, would_block}
use Rattle.jsp_model.specs.Refusals.{lease_tests, renew_tests, refusal}
use Rattle.jsp_model.specs.Changes.{close, join, owe, add_row, new_row, write, give, block, give_or_block, register, open_set, forget, committed, published, commit, abort, cast, cast_vote, remove, extend, renew, cancel, renew_one, cancel_one, accepted}
use Rattle.jsp_model.specs.Answers.{Saying, said}
use Rattle.jsp_model.specs.Outboxes.{post, hand_out}
use Rattle.jsp_model.specs.Steps.{after_ask, is_too_long, after_grant, change, next}
use Rattle.jsp_model.proofs.Outboxes.{is_hand_out, handed_other}

-- the state with these outboxes in place of its own
abbrev pub with_outboxes : List Outbox → State → State
with_outboxes o st = record st { outboxes = o }

-- ---- choices and folds

choice : (o : List Outbox) (b : Bool) (x y : State) → cond b (with_outboxes o x) (with_outboxes o y) ≡ with_outboxes o (cond b x y)
choice o true x y = refl
choice o false x y = refl

choices : (o : List Outbox) (b : Bool) (x y v w : State) → x ≡ with_outboxes o v → y ≡ with_outboxes o w → cond b x y ≡ with_outboxes o (cond b v w)
choices o true x y v w p q = p
choices o false x y v w p q = q

folds : {X : Type 0} (o : List Outbox) (one : State → X → State) → ((st : State) (x : X) → one (with_outboxes o st) x ≡ with_outboxes o (one st x))
    → (st : State) (xs : List X) → fold one (with_outboxes o st) xs ≡ with_outboxes o (fold one st xs)
folds o one h st [] = refl
folds o one h st (x ∷ xs) = ap (λ w. fold one w xs) (h st x) ∙ folds o one h (one st x) xs

-- ---- the changes

join_apart : (o : List Outbox) (st : State) (x : Option ℕ) (space : ℕ) → join (with_outboxes o st) x space ≡ with_outboxes o (join st x space)
join_apart o st None space = refl
join_apart o st (Some x) space = choice o (is_some (joined_at st x space)) st _

write_apart : (o : List Outbox) (st : State) (w : WriteRequest) → write (with_outboxes o st) w ≡ with_outboxes o (write st w)
write_apart o st w =
    ap (λ k. fold (λ st raw. add_row st (new_row st w raw)) k w.entries) (join_apart o st (caller_of w.txn) (place_of st w.space))
    ∙ folds o (λ st raw. add_row st (new_row st w raw)) (λ k raw. refl) (join st (caller_of w.txn) (place_of st w.space)) w.entries

give_or_block_apart : (o : List Outbox) (st : State) (s id : ℕ) (q : RowRequest) (ns : List ℕ) → give_or_block (with_outboxes o st) s id q ns ≡ with_outboxes o (give_or_block st s id q ns)
give_or_block_apart o st s id q ns =
    let b = as_blocked st s id q in
    let joined = join_apart o st b.transaction b.space in
    choices o (would_block st s id q) _ _ (block (join st b.transaction b.space) b) (give (join st b.transaction b.space) b ns)
    (ap (λ k. block k b) joined)
    (ap (λ k. give k b ns) joined)

register_apart : (o : List Outbox) (st : State) (s : ℕ) (q : Notify) → register (with_outboxes o st) s q ≡ with_outboxes o (register st s q)
register_apart o st s q =
    let x = caller_of q.txn in
    let space = place_of st q.space in
    ap (λ (k : State). record k { registrations = (register st s q).registrations; next_number = st.next_number + 1 }) (join_apart o st x space)

open_set_apart : (o : List Outbox) (st : State) (s : ℕ) (q : Contents) → open_set (with_outboxes o st) s q ≡ with_outboxes o (open_set st s q)
open_set_apart o st s q =
    let x = caller_of q.txn in
    let space = place_of st q.space in
    ap (λ (k : State). record k { sets = (open_set st s q).sets; next_number = st.next_number + 1 }) (join_apart o st x space)

pub commit_apart : (o : List Outbox) (st : State) (x : ℕ) → commit (with_outboxes o st) x ≡ with_outboxes o (commit st x)
commit_apart o st x = folds o (owe None) (λ k row. refl) (record (forget st x) { rows = committed x st.rows }) (published x st.rows)

pub cast_vote_apart : (o : List Outbox) (st : State) (x space : ℕ) → cast_vote (with_outboxes o st) x space ≡ with_outboxes o (cast_vote st x space)
cast_vote_apart o st x space = go (joined_at st x space)
  where
    go : (j : Option Joined) → option_map_or (cast (with_outboxes o st) x) j (with_outboxes o st) ≡ with_outboxes o (option_map_or (cast st x) j st)
    go None = refl
    go (Some j) = refl

pub remove_apart : (o : List Outbox) (st : State) (r : Rank) (n : ℕ) → remove (with_outboxes o st) r n ≡ with_outboxes o (remove st r n)
remove_apart o st rank.Entry n = refl
remove_apart o st rank.Registration n = refl
remove_apart o st rank.Transaction n = refl
remove_apart o st rank.Blocked n = refl
remove_apart o st rank.MatchSet n = refl

extend_apart : (o : List Outbox) (st : State) (end : ℕ) (r : Rank) (n : ℕ) → extend (with_outboxes o st) end r n ≡ with_outboxes o (extend st end r n)
extend_apart o st end rank.Entry n = refl
extend_apart o st end rank.Registration n = refl
extend_apart o st end rank.Transaction n = refl
extend_apart o st end rank.Blocked n = refl
extend_apart o st end rank.MatchSet n = refl

-- what is done to the thing that a number names, if it names one
named_apart : (o : List Outbox) (st : State) (new old : Rank → State) → ((r : Rank) → new r ≡ with_outboxes o (old r)) → (r : Option Rank) → option_map_or new r (with_outboxes o st) ≡ with_outboxes o (option_map_or old r st)
named_apart o st new old h None = refl
named_apart o st new old h (Some r) = h r

renew_apart : (o : List Outbox) (st : State) (lease ms : ℤ) → renew (with_outboxes o st) lease ms ≡ with_outboxes o (renew st lease ms)
renew_apart o st lease ms =
    let end = st.time + ms_of ms in
    named_apart o st (λ r. extend (with_outboxes o st) end r (named lease)) (λ r. extend st end r (named lease)) (λ r. extend_apart o st end r (named lease)) (rank_of st (named lease))

cancel_apart : (o : List Outbox) (st : State) (lease : ℤ) → cancel (with_outboxes o st) lease ≡ with_outboxes o (cancel st lease)
cancel_apart o st lease =
    named_apart o st (λ r. remove (with_outboxes o st) r (named lease)) (λ r. remove st r (named lease)) (λ r. remove_apart o st r (named lease)) (rank_of st (named lease))

renew_one_apart : (o : List Outbox) (st : State) (l : ℤ × ℤ) → renew_one (with_outboxes o st) l ≡ with_outboxes o (renew_one st l)
renew_one_apart o st l = choices o (is_some (first_that (renew_tests st l.0 l.1))) _ _ st (renew st l.0 l.1) refl (renew_apart o st l.0 l.1)

cancel_one_apart : (o : List Outbox) (st : State) (lease : ℤ) → cancel_one (with_outboxes o st) lease ≡ with_outboxes o (cancel_one st lease)
cancel_one_apart o st lease = choices o (is_some (first_that (lease_tests st lease))) _ _ st (cancel st lease) refl (cancel_apart o st lease)

-- ---- requests

-- the same requests are refused, for the same reasons
pub refusal_apart : (o : List Outbox) (st : State) (s id : ℕ) (a : Ask) → refusal (record st { outboxes = o }) s id a ≡ refusal st s id a
unfolding refusal
refusal_apart o st s id (ask.Declare d) = refl
refusal_apart o st s id (ask.Write w) = refl
refusal_apart o st s id (ask.Read q) = refl
refusal_apart o st s id (ask.ReadIf q) = refl
refusal_apart o st s id (ask.Take q) = refl
refusal_apart o st s id (ask.TakeIf q) = refl
refusal_apart o st s id (ask.Notify q) = refl
refusal_apart o st s id (ask.Renew lease ms) = refl
refusal_apart o st s id (ask.Cancel lease) = refl
refusal_apart o st s id (ask.RenewAll leases) = refl
refusal_apart o st s id (ask.CancelAll leases) = refl
refusal_apart o st s id (ask.Txn lease) = refl
refusal_apart o st s id (ask.Commit x) = refl
refusal_apart o st s id (ask.Abort x) = refl
refusal_apart o st s id (ask.State x) = refl
refusal_apart o st s id (ask.Reset space) = refl
refusal_apart o st s id ask.Spaces = refl
refusal_apart o st s id ask.Bye = refl
refusal_apart o st s id (ask.Hello v) = refl
refusal_apart o st s id (ask.WriteAll w) = refl
refusal_apart o st s id (ask.TakeMany q) = refl
refusal_apart o st s id (ask.Contents q) = refl
refusal_apart o st s id (ask.Next set most) = refl
refusal_apart o st s id (ask.CloseSet set) = refl

pub accepted_apart : (o : List Outbox) (st : State) (s id : ℕ) (ns : List ℕ) (a : Ask) → accepted (record st { outboxes = o }) s id ns a ≡ record (accepted st s id ns a) { outboxes = o }
accepted_apart o st s id ns (ask.Declare d) = refl
accepted_apart o st s id ns (ask.Write w) = write_apart o st (one_entry w)
accepted_apart o st s id ns (ask.Read q) = give_or_block_apart o st s id (one_row form.Read q) ns
accepted_apart o st s id ns (ask.ReadIf q) = give_or_block_apart o st s id (one_row form.ReadIf q) ns
accepted_apart o st s id ns (ask.Take q) = give_or_block_apart o st s id (one_row form.Take q) ns
accepted_apart o st s id ns (ask.TakeIf q) = give_or_block_apart o st s id (one_row form.TakeIf q) ns
accepted_apart o st s id ns (ask.Notify q) = register_apart o st s q
accepted_apart o st s id ns (ask.Renew lease ms) = renew_apart o st lease ms
accepted_apart o st s id ns (ask.Cancel lease) = cancel_apart o st lease
accepted_apart o st s id ns (ask.RenewAll leases) = folds o renew_one (renew_one_apart o) st leases
accepted_apart o st s id ns (ask.CancelAll leases) = folds o cancel_one (cancel_one_apart o) st leases
accepted_apart o st s id ns (ask.Txn lease) = refl
accepted_apart o st s id ns (ask.Commit x) = refl
accepted_apart o st s id ns (ask.Abort x) = refl
accepted_apart o st s id ns (ask.State x) = refl
accepted_apart o st s id ns (ask.Reset space) = refl
accepted_apart o st s id ns ask.Spaces = refl
accepted_apart o st s id ns ask.Bye = refl
accepted_apart o st s id ns (ask.Hello v) = refl
accepted_apart o st s id ns (ask.WriteAll w) = write_apart o st (all_entries w)
accepted_apart o st s id ns (ask.TakeMany q) = give_or_block_apart o st s id (many_rows q) ns
accepted_apart o st s id ns (ask.Contents q) = open_set_apart o st s q
accepted_apart o st s id ns (ask.Next set most) = refl
accepted_apart o st s id ns (ask.CloseSet set) = refl

after_ask_apart : (o : List Outbox) (st : State) (s id : ℕ) (ns : List ℕ) (a : Ask) (r : Option Refusal) → after_ask (with_outboxes o st) s id ns a r ≡ with_outboxes o (after_ask st s id ns a r)
after_ask_apart o st s id ns a None = accepted_apart o st s id ns a
after_ask_apart o st s id ns a (Some r) = refl

-- ---- steps

after_grant_apart : (o : List Outbox) (st : State) (n : ℕ) (ns : List ℕ) (b : Option Blocked) → after_grant (with_outboxes o st) n ns b ≡ with_outboxes o (after_grant st n ns b)
after_grant_apart o st n ns None = refl
after_grant_apart o st n ns (Some b) = refl

pub change_apart : (o : List Outbox) (st : State) (x : Step) → change (record st { outboxes = o }) x ≡ record (change st x) { outboxes = o }
change_apart o st (step.Open s) = refl
change_apart o st (step.Shut s) = refl
change_apart o st (step.Clock t) = refl
change_apart o st (step.Ask s a ns) =
    ap (after_ask (with_outboxes o st) s a.id ns a.ask) (refusal_apart o st s a.id a.ask) ∙ after_ask_apart o st s a.id ns a.ask (refusal st s a.id a.ask)
change_apart o st (step.Fault s id r) = choice o (is_too_long r) (close st s) st
change_apart o st (step.Grant n ns) = after_grant_apart o st n ns (blocked_of st n)
change_apart o st (step.Empty n) = refl
change_apart o st (step.Tell n) = refl
change_apart o st (step.Due item) = remove_apart o st item.rank item.number
change_apart o st (step.Vote x space) = cast_vote_apart o st x space
change_apart o st (step.Decide x commits) = choices o commits _ _ (commit st x) (abort st x) (commit_apart o st x) refl
change_apart o st (step.HandOut s n) = refl

-- Whoever first posts what a step says and then makes its change has made the step.
pub next_posted : (st : State) (x : Step) → is_hand_out x ≡ false → change (record st { outboxes = fold post st.outboxes (said st x) }) x ≡ next st x
unfolding next
next_posted st x h =
    let boxes = fold post st.outboxes (said st x) in
    change_apart boxes st x ∙ ap (λ w. record (change st x) { outboxes = w }) (sym (handed_other x boxes h))

-- where nothing is said the change is the step
pub next_silent : (st : State) (x : Step) → is_hand_out x ≡ false → said st x ≡ [] → change st x ≡ next st x
next_silent st x h none = sym (ap (λ (a : List Saying). change (record st { outboxes = fold post st.outboxes a }) x) none) ∙ next_posted st x h

pub next_handed : (st : State) (s n : ℕ) → next st (step.HandOut s n) ≡ record st { outboxes = hand_out s n st.outboxes }
unfolding next said
next_handed st s n = refl

-- Sessions over a run: numbers rise, and what is closed stays closed.
use Rattle.std.proofs.Common.{◌≡◌, ℕ, ℤ, ◌+◌, ◌^◌, ◌<◌, ◌≤◌, Bool, true, false, not, List, [], ◌∷◌, ◌++◌, Option, Some, None, cond, eqb, length, refl, ap, sym, ◌∙◌, arith}
use Rattle.std.specs.Prelude.{filter, fold, is_some, ◌==◌, ◌&&◌, ◌||◌, nat_le, nat_lt, if◌then◌else◌}
use Rattle.std.specs.List.{list_any}
use Rattle.std.specs.Option.{option_map_or}
use Rattle.std.proofs.lemmas.Bool.{and_parts, or_parts, or_from, ltb-true, ne_eqb, eqb-true}
use Rattle.std.proofs.lemmas.List.Folds.{list_any-append}
use Rattle.std.proofs.lemmas.List.{length-map, length-append}
use Rattle.jsp_types.specs.declared.entry.Raw.{Raw}
use Rattle.jsp_wire.specs.declared.ask.Ask.{Ask}
use Rattle.jsp_wire.specs.declared.ask.Ask.TheVariants as ask
use Rattle.jsp_wire.specs.declared.ask.Version.{Version}
use Rattle.jsp_wire.specs.declared.ask.Version.TheVariants as version
use Rattle.jsp_reply.specs.declared.refusal.Refusal.{Refusal}
use Rattle.jsp_model.specs.declared.state.State.{State}
use Rattle.jsp_model.specs.declared.state.Session.{Session}
use Rattle.jsp_model.specs.declared.state.Blocked.{Blocked}
use Rattle.jsp_model.specs.declared.state.Transaction.{Transaction}
use Rattle.jsp_model.specs.declared.state.Form.TheVariants as form
use Rattle.jsp_model.specs.declared.step.Step.{Step}
use Rattle.jsp_model.specs.declared.step.Step.TheVariants as step
use Rattle.jsp_lease.specs.declared.item.Rank.{Rank}
use Rattle.jsp_lease.specs.declared.item.Rank.TheVariants as rank
use Rattle.jsp_model.specs.Lookup.{empty, named, update, is_open, blocked_of, joined_at, rank_of}
use Rattle.jsp_lease.specs.Granted.{ms_of}
use Rattle.jsp_model.specs.Refusals.{refusal, renew_tests, lease_tests}
use Rattle.jsp_model.specs.Requests.{WriteRequest, RowRequest, one_row, many_rows, one_entry, all_entries, would_block, as_blocked, caller_of, place_of}
use Rattle.jsp_types.specs.Tests.{first_that}
use Rattle.jsp_model.specs.Changes.{close, newly_joined, join, owe, add_row, new_row, write, block, give, give_or_block, remove, extend, renew, renew_one, cancel, cancel_one, forget, commit, committed, published, cast, abort, accepted}
use Rattle.jsp_model.specs.Steps.{is_legal, next, after_ask, after_grant, is_too_long}
use Rattle.jsp_model.specs.Runs.{state_after, is_run, IsRun}

-- sessions are as they were
record Keeps (old new : State) : Type 0 where
  sessions : new.sessions ≡ old.sessions
  last : new.last_session ≡ old.last_session

same : (st : State) → Keeps st st
same st = record { sessions = refl; last = refl }

both : (a b c : State) → Keeps a b → Keeps b c → Keeps a c
both a b c p q = record { sessions = q.sessions ∙ p.sessions; last = q.last ∙ p.last }

either : (st : State) (b : Bool) (x y : State) → Keeps st x → Keeps st y → Keeps st (cond b x y)
either st true x y p q = p
either st false x y p q = q

folded : {A : Type 0} (f : State → A → State) (xs : List A) (st now : State) → ((st : State) (x : A) → Keeps st (f st x)) → Keeps st now → Keeps st (fold f now xs)
folded f [] st now each h = h
folded f (x ∷ xs) st now each h = folded f xs st (f now x) each (both st now (f now x) h (each now x))

join_keeps : (st : State) (x : Option ℕ) (space : ℕ) → Keeps st (join st x space)
join_keeps st None space = same st
join_keeps st (Some x) space =
    either st (is_some (joined_at st x space)) st
    (record st { transactions = update (λ t. t.number == x) (λ (t : Transaction). record t { joined = t.joined ++ newly_joined st space ∷ [] }) st.transactions })
    (same st)
    (record { sessions = refl; last = refl })

write_keeps : (st : State) (w : WriteRequest) → Keeps st (write st w)
write_keeps st w =
    folded (λ (st : State) (raw : Raw). add_row st (new_row st w raw)) w.entries st (join st (caller_of w.txn) (place_of st w.space))
    (λ st raw. record { sessions = refl; last = refl })
    (join_keeps st (caller_of w.txn) (place_of st w.space))

rows_keep : (st : State) (s id : ℕ) (q : RowRequest) (ns : List ℕ) → Keeps st (give_or_block st s id q ns)
rows_keep st s id q ns =
    let b = as_blocked st s id q in
    let joined = join st b.transaction b.space in
    let kept = join_keeps st b.transaction b.space in
    either st (would_block st s id q) (block joined b) (give joined b ns)
    (record { sessions = kept.sessions; last = kept.last })
    (record { sessions = kept.sessions; last = kept.last })

remove_keeps : (st : State) (r : Rank) (n : ℕ) → Keeps st (remove st r n)
remove_keeps st rank.Entry n = record { sessions = refl; last = refl }
remove_keeps st rank.Registration n = record { sessions = refl; last = refl }
remove_keeps st rank.Transaction n = record { sessions = refl; last = refl }
remove_keeps st rank.Blocked n = record { sessions = refl; last = refl }
remove_keeps st rank.MatchSet n = record { sessions = refl; last = refl }

extend_keeps : (st : State) (end : ℕ) (r : Rank) (n : ℕ) → Keeps st (extend st end r n)
extend_keeps st end rank.Entry n = record { sessions = refl; last = refl }
extend_keeps st end rank.Registration n = record { sessions = refl; last = refl }
extend_keeps st end rank.Transaction n = record { sessions = refl; last = refl }
extend_keeps st end rank.Blocked n = same st
extend_keeps st end rank.MatchSet n = record { sessions = refl; last = refl }

perhaps : {A : Type 0} (f : A → State) (o : Option A) (st : State) → ((x : A) → Keeps st (f x)) → Keeps st (option_map_or f o st)
perhaps f None st each = same st
perhaps f (Some x) st each = each x

renew_keeps : (st : State) (lease ms : ℤ) → Keeps st (renew st lease ms)
renew_keeps st lease ms = perhaps _ (rank_of st (named lease)) st (λ r. extend_keeps st (st.time + ms_of ms) r (named lease))

cancel_keeps : (st : State) (lease : ℤ) → Keeps st (cancel st lease)
cancel_keeps st lease = perhaps _ (rank_of st (named lease)) st (λ r. remove_keeps st r (named lease))

renew_one_keeps : (st : State) (l : ℤ × ℤ) → Keeps st (renew_one st l)
renew_one_keeps st l = either st (is_some (first_that (renew_tests st l.0 l.1))) st (renew st l.0 l.1) (same st) (renew_keeps st l.0 l.1)

cancel_one_keeps : (st : State) (lease : ℤ) → Keeps st (cancel_one st lease)
cancel_one_keeps st lease = either st (is_some (first_that (lease_tests st lease))) st (cancel st lease) (same st) (cancel_keeps st lease)

commit_keeps : (st : State) (x : ℕ) → Keeps st (commit st x)
commit_keeps st x =
    folded (owe None) (published x st.rows) st (record (forget st x) { rows = committed x st.rows })
    (λ st row. record { sessions = refl; last = refl })
    (record { sessions = refl; last = refl })

-- ---- none is opened

-- no session is opened
pub record OpensNone (old new : State) : Type 0 where
  pub closed : (s : ℕ) → is_open old s ≡ false → is_open new s ≡ false
  pub last : new.last_session ≡ old.last_session
  pub count : length new.sessions ≤ length old.sessions

abbrev has : List Session → ℕ → Bool
has sessions s = list_any (λ (k : Session). k.number == s) sessions

kept : (old new : State) → Keeps old new → OpensNone old new
kept old new h = record { closed = λ s c. ap (λ w. has w s) h.sessions ∙ c; last = h.last; count = omega (arith, ap length h.sessions) }

still_closed : (s t : ℕ) (sessions : List Session) → has sessions s ≡ false → has (filter (λ k. not (k.number == t)) sessions) s ≡ false
still_closed s t [] h = refl
still_closed s t (k ∷ sessions) h =
    let parts = or_parts (k.number == s) (has sessions s) h in
    let rest = still_closed s t sessions parts.1 in
    elim (k.number == t) as (λ b. has (cond (not b) (k ∷ filter (λ k. not (k.number == t)) sessions) (filter (λ k. not (k.number == t)) sessions)) s ≡ false)
    [ true ↦ rest | false ↦ rw parts.0 rest ]

fewer : (p : Session → Bool) (sessions : List Session) → length (filter p sessions) ≤ length sessions
fewer p [] = omega arith
fewer p (k ∷ sessions) = at (p k) (fewer p sessions)
  where
    at : (b : Bool) → length (filter p sessions) ≤ length sessions → length (cond b (k ∷ filter p sessions) (filter p sessions)) ≤ length (k ∷ sessions)
    at true h = omega (arith, h)
    at false h = omega (arith, h)

closes : (st : State) (t : ℕ) → OpensNone st (close st t)
closes st t = record { closed = λ s h. still_closed s t st.sessions h; last = refl; count = fewer (λ k. not (k.number == t)) st.sessions }

same_number : (b : Bool) (s : ℕ) (v : Version) (k : Session) (rest : Bool) → ((if b then record k { version = v } else k).number == s || rest) ≡ (k.number == s || rest)
same_number true s v k rest = refl
same_number false s v k rest = refl

revised : (s t : ℕ) (v : Version) (sessions : List Session) → has (update (λ k. k.number == t) (λ (k : Session). record k { version = v }) sessions) s ≡ has sessions s
revised s t v [] = refl
revised s t v (k ∷ sessions) = same_number (k.number == t) s v k _ ∙ ap (λ b. k.number == s || b) (revised s t v sessions)

accepted_opens_none : (st : State) (s id : ℕ) (ns : List ℕ) (a : Ask) → OpensNone st (accepted st s id ns a)
accepted_opens_none st s id ns (ask.Declare d) = kept st _ (record { sessions = refl; last = refl })
accepted_opens_none st s id ns (ask.Write w) = kept st _ (write_keeps st (one_entry w))
accepted_opens_none st s id ns (ask.Read q) = kept st _ (rows_keep st s id (one_row form.Read q) ns)
accepted_opens_none st s id ns (ask.ReadIf q) = kept st _ (rows_keep st s id (one_row form.ReadIf q) ns)
accepted_opens_none st s id ns (ask.Take q) = kept st _ (rows_keep st s id (one_row form.Take q) ns)
accepted_opens_none st s id ns (ask.TakeIf q) = kept st _ (rows_keep st s id (one_row form.TakeIf q) ns)
accepted_opens_none st s id ns (ask.Notify q) =
    let joined = join_keeps st (caller_of q.txn) (place_of st q.space) in
    kept st _ (record { sessions = joined.sessions; last = joined.last })
accepted_opens_none st s id ns (ask.Renew lease ms) = kept st _ (renew_keeps st lease ms)
accepted_opens_none st s id ns (ask.Cancel lease) = kept st _ (cancel_keeps st lease)
accepted_opens_none st s id ns (ask.RenewAll leases) = kept st _ (folded renew_one leases st st renew_one_keeps (same st))
accepted_opens_none st s id ns (ask.CancelAll leases) = kept st _ (folded cancel_one leases st st cancel_one_keeps (same st))
accepted_opens_none st s id ns (ask.Txn lease) = kept st _ (record { sessions = refl; last = refl })
accepted_opens_none st s id ns (ask.Commit x) = kept st _ (record { sessions = refl; last = refl })
accepted_opens_none st s id ns (ask.Abort x) = kept st _ (record { sessions = refl; last = refl })
accepted_opens_none st s id ns (ask.State x) = kept st _ (same st)
accepted_opens_none st s id ns (ask.Reset space) = kept st _ (record { sessions = refl; last = refl })
accepted_opens_none st s id ns ask.Spaces = kept st _ (same st)
accepted_opens_none st s id ns ask.Bye = closes st s
accepted_opens_none st s id ns (ask.Hello v) = record { closed = λ t h. revised t s v st.sessions ∙ h; last = refl; count = omega (arith, length-map st.sessions (λ (k : Session). if k.number == s then record k { version = v } else k)) }
accepted_opens_none st s id ns (ask.WriteAll w) = kept st _ (write_keeps st (all_entries w))
accepted_opens_none st s id ns (ask.TakeMany q) = kept st _ (rows_keep st s id (many_rows q) ns)
accepted_opens_none st s id ns (ask.Contents q) =
    let joined = join_keeps st (caller_of q.txn) (place_of st q.space) in
    kept st _ (record { sessions = joined.sessions; last = joined.last })
accepted_opens_none st s id ns (ask.Next set most) = kept st _ (record { sessions = refl; last = refl })
accepted_opens_none st s id ns (ask.CloseSet set) = kept st _ (record { sessions = refl; last = refl })

asked_opens_none : (st : State) (s id : ℕ) (ns : List ℕ) (a : Ask) (r : Option Refusal) → OpensNone st (after_ask st s id ns a r)
asked_opens_none st s id ns a None = accepted_opens_none st s id ns a
asked_opens_none st s id ns a (Some r) = kept st st (same st)

fault_opens_none : (st : State) (s : ℕ) (b : Bool) → OpensNone st (if b then close st s else st)
fault_opens_none st s true = closes st s
fault_opens_none st s false = kept st st (same st)

granted_keep : (st : State) (n : ℕ) (ns : List ℕ) (b : Option Blocked) → Keeps st (after_grant st n ns b)
granted_keep st n ns None = same st
granted_keep st n ns (Some b) = record { sessions = refl; last = refl }

abbrev is_opening : Step → Bool
is_opening (step.Open s) = true
is_opening _ = false

-- the outboxes don't matter
plain : (st now : State) (x : Step) → OpensNone st now → (next st x).sessions ≡ now.sessions → (next st x).last_session ≡ now.last_session → OpensNone st (next st x)
plain st now x h sessions last = record { closed = λ s c. ap (λ w. has w s) sessions ∙ h.closed s c; last = last ∙ h.last; count = omega (arith, ap length sessions, h.count) }

other_step : (st : State) (x : Step) → is_opening x ≡ false → OpensNone st (next st x)
unfolding next
other_step st (step.Open s) h = cc (h)
other_step st (step.Shut s) h = plain st (close st s) (step.Shut s) (closes st s) refl refl
other_step st (step.Clock t) h = plain st st (step.Clock t) (kept st st (same st)) refl refl
other_step st (step.Ask s a ns) h = plain st (after_ask st s a.id ns a.ask (refusal st s a.id a.ask)) (step.Ask s a ns) (asked_opens_none st s a.id ns a.ask (refusal st s a.id a.ask)) refl refl
other_step st (step.Fault s id r) h = plain st (if is_too_long r then close st s else st) (step.Fault s id r) (fault_opens_none st s (is_too_long r)) refl refl
other_step st (step.Grant n ns) h = plain st (after_grant st n ns (blocked_of st n)) (step.Grant n ns) (kept st _ (granted_keep st n ns (blocked_of st n))) refl refl
other_step st (step.Empty n) h = plain st st (step.Empty n) (kept st st (same st)) refl refl
other_step st (step.Tell n) h = plain st st (step.Tell n) (kept st st (same st)) refl refl
other_step st (step.Due item) h = plain st (remove st item.rank item.number) (step.Due item) (kept st _ (remove_keeps st item.rank item.number)) refl refl
other_step st (step.Vote x space) h =
    plain st (option_map_or (cast st x) (joined_at st x space) st) (step.Vote x space)
    (kept st _ (perhaps (cast st x) (joined_at st x space) st (λ j. record { sessions = refl; last = refl }))) refl refl
other_step st (step.Decide x commits) h =
    plain st (if commits then commit st x else abort st x) (step.Decide x commits)
    (kept st _ (either st commits (commit st x) (abort st x) (commit_keeps st x) (record { sessions = refl; last = refl }))) refl refl
other_step st (step.HandOut s n) h = plain st st (step.HandOut s n) (kept st st (same st)) refl refl

-- a step opens one session at most
pub opens_one : (st : State) (x : Step) → length (next st x).sessions ≤ length st.sessions + 1
unfolding next
opens_one st (step.Open s) = omega (arith, length-append st.sessions (record { number = s; version = version.One } ∷ []))
opens_one st (step.Shut s) = omega (arith, (other_step st (step.Shut s) refl).count)
opens_one st (step.Clock t) = omega (arith, (other_step st (step.Clock t) refl).count)
opens_one st (step.Ask s a ns) = omega (arith, (other_step st (step.Ask s a ns) refl).count)
opens_one st (step.Fault s id r) = omega (arith, (other_step st (step.Fault s id r) refl).count)
opens_one st (step.Grant n ns) = omega (arith, (other_step st (step.Grant n ns) refl).count)
opens_one st (step.Empty n) = omega (arith, (other_step st (step.Empty n) refl).count)
opens_one st (step.Tell n) = omega (arith, (other_step st (step.Tell n) refl).count)
opens_one st (step.Due item) = omega (arith, (other_step st (step.Due item) refl).count)
opens_one st (step.Vote x space) = omega (arith, (other_step st (step.Vote x space) refl).count)
opens_one st (step.Decide x c) = omega (arith, (other_step st (step.Decide x c) refl).count)
opens_one st (step.HandOut s n) = omega (arith, (other_step st (step.HandOut s n) refl).count)

fewer_by_one : (s : ℕ) (sessions : List Session) → has sessions s ≡ true → length (filter (λ k. not (k.number == s)) sessions) < length sessions
fewer_by_one s [] e = absurd (cc)
fewer_by_one s (k ∷ sessions) e = at (k.number == s) e (fewer_by_one s sessions)
  where
    at : (b : Bool) → (b || has sessions s) ≡ true → (has sessions s ≡ true → length (filter (λ k. not (k.number == s)) sessions) < length sessions)
        → length (cond (not b) (k ∷ filter (λ k. not (k.number == s)) sessions) (filter (λ k. not (k.number == s)) sessions)) < length (k ∷ sessions)
    at true q ih = let w = fewer (λ k. not (k.number == s)) sessions in omega (arith, w)
    at false q ih = let w = ih q in omega (arith, w)

-- a closing leaves one session fewer
pub shut_closes_one : (st : State) (s : ℕ) → is_open st s ≡ true → length (next st (step.Shut s)).sessions < length st.sessions
unfolding next
shut_closes_one st s h = fewer_by_one s st.sessions h

-- ---- over a run

-- each open session's number is at most the last one
pub record Numbered (st : State) : Type 0 where
  pub within : (s : ℕ) → is_open st s ≡ true → s ≤ st.last_session

-- the session was closed, or passed over, and is never opened again
pub record IsPast (s : ℕ) (st : State) : Type 0 where
  pub closed : is_open st s ≡ false
  pub low : s ≤ st.last_session

pub numbered_at_first : (names : List (List ℕ)) → Numbered (empty names)
numbered_at_first names = record { within = λ s h. cc (h) }

pub record Rises (old new : State) : Type 0 where
  pub numbered : Numbered old → Numbered new
  pub past : (s : ℕ) → IsPast s old → IsPast s new
  pub last : old.last_session ≤ new.last_session

was_open : (b : Bool) (old new : State) (s : ℕ) → is_open old s ≡ b → OpensNone old new → is_open new s ≡ true → is_open old s ≡ true
was_open true old new s is h live = is
was_open false old new s is h live = absurd (cc (h.closed s is, live))

rises_other : (old new : State) → OpensNone old new → Rises old new
rises_other old new h = record {
  numbered = λ n. record { within = λ s live. omega (arith, h.last, n.within s (was_open (is_open old s) old new s refl h live)) };
  past = λ s p. record { closed = h.closed s p.closed; low = omega (arith, h.last, p.low) };
  last = omega (arith, h.last);
}

record Opened (st now : State) (t : ℕ) : Type 0 where
  sessions : (s : ℕ) → is_open now s ≡ (is_open st s || t == s)
  last : now.last_session ≡ t

rises_open_at : (b : Bool) (st now : State) (t s : ℕ) → Opened st now t → st.last_session < t → Numbered st → eqb t s ≡ b → is_open now s ≡ true → s ≤ now.last_session
rises_open_at true st now t s o low n is live = omega (arith, o.last, eqb-true t s is)
rises_open_at false st now t s o low n is live =
    let old : is_open st s ≡ true = sym (ap (λ b. is_open st s || b) is ∙ or_false (is_open st s)) ∙ sym (o.sessions s) ∙ live in
    omega (arith, o.last, n.within s old)
  where
    or_false : (x : Bool) → (x || false) ≡ x
    or_false true = refl
    or_false false = refl

rises_open : (st now : State) (t : ℕ) → Opened st now t → st.last_session < t → Rises st now
rises_open st now t o low = record {
  numbered = λ n. record { within = λ s live. rises_open_at (eqb t s) st now t s o low n refl live };
  past = λ s p. record { closed = o.sessions s ∙ or_from (is_open st s) (t == s) p.closed (ne_eqb t s (λ e. omega (arith, p.low))); low = omega (arith, o.last, p.low) };
  last = omega (arith, o.last);
}

opened_step : (st : State) (t : ℕ) → Opened st (next st (step.Open t)) t
unfolding next
opened_step st t = record {
  sessions = λ s. list_any-append (λ (k : Session). k.number == s) st.sessions (record { number = t; version = version.One } ∷ []) ∙ ap (λ b. is_open st s || b) (last_one (t == s));
  last = refl;
}
  where
    last_one : (b : Bool) → (b || false) ≡ b
    last_one true = refl
    last_one false = refl

open_above : (st : State) (t : ℕ) → is_legal st (step.Open t) ≡ true → st.last_session < t
unfolding is_legal
open_above st t h = ltb-true st.last_session t (and_parts (nat_le 1 t) (nat_lt st.last_session t) (and_parts (nat_le 1 t && nat_lt st.last_session t) (nat_le t (2 ^ 31)) h).0).1

rises_step_at : (b : Bool) (st : State) (x : Step) → is_opening x ≡ b → is_legal st x ≡ true → Rises st (next st x)
rises_step_at false st x is legal = rises_other st (next st x) (other_step st x is)
rises_step_at true st (step.Open t) is legal = rises_open st (next st (step.Open t)) t (opened_step st t) (open_above st t legal)
rises_step_at true st (step.Shut s) is legal = cc (is)
rises_step_at true st (step.Clock t) is legal = cc (is)
rises_step_at true st (step.Ask s a ns) is legal = cc (is)
rises_step_at true st (step.Fault s id r) is legal = cc (is)
rises_step_at true st (step.Grant n ns) is legal = cc (is)
rises_step_at true st (step.Empty n) is legal = cc (is)
rises_step_at true st (step.Tell n) is legal = cc (is)
rises_step_at true st (step.Due item) is legal = cc (is)
rises_step_at true st (step.Vote x space) is legal = cc (is)
rises_step_at true st (step.Decide x commits) is legal = cc (is)
rises_step_at true st (step.HandOut s n) is legal = cc (is)

in_turn : (a b c : State) → Rises a b → Rises b c → Rises a c
in_turn a b c p q = record {
  numbered = λ n. q.numbered (p.numbered n);
  past = λ s h. q.past s (p.past s h);
  last = omega (arith, p.last, q.last);
}

-- Over a run numbers rise, and what is past stays past.
pub rises_run : (st : State) (xs : List Step) → IsRun st xs → Rises st (state_after st xs)
rises_run st [] run = record { numbered = λ n. n; past = λ s h. h; last = omega arith }
rises_run st (x ∷ xs) run =
    let parts = and_parts (is_legal st x) (is_run (next st x) xs) run in
    in_turn st (next st x) (state_after (next st x) xs) (rises_step_at (is_opening x) st x refl parts.0) (rises_run (next st x) xs parts.1)

-- Sessions of a run are numbered up to the last one.
use Rattle.std.proofs.Common.{◌≡◌, ◌≤◌, ℕ, ℤ, Bool, true, false, List, Option, Some, None, eqb, refl, ◌∙◌, subst, arith}
use Rattle.std.specs.Prelude.{◌&&◌, not, fold, if◌then◌else◌, is_some, nat_lt, nat_le}
use Rattle.std.specs.Option.{option_map_or}
use Rattle.std.proofs.lemmas.Bool.{and_parts, eqb-true, leb-true, ltb-true}
use Rattle.jsp_types.specs.Tests.{first_that}
use Rattle.jsp_wire.specs.declared.ask.Ask.{Ask}
use Rattle.jsp_wire.specs.declared.ask.Ask.TheVariants as ask
use Rattle.jsp_wire.specs.declared.ask.Contents.{Contents}
use Rattle.jsp_wire.specs.declared.ask.Notify.{Notify}
use Rattle.jsp_wire.specs.declared.ask.Version.{Version}
use Rattle.jsp_lease.specs.declared.item.Rank.{Rank}
use Rattle.jsp_lease.specs.declared.item.Rank.TheVariants as rank
use Rattle.jsp_reply.specs.declared.refusal.Refusal.{Refusal}
use Rattle.jsp_model.specs.declared.limits.TheConstants.{LAST_SESSION}
use Rattle.jsp_model.specs.declared.state.State.{State}
use Rattle.jsp_model.specs.declared.state.Session.{Session}
use Rattle.jsp_model.specs.declared.state.Blocked.{Blocked}
use Rattle.jsp_model.specs.declared.state.Form.TheVariants as form
use Rattle.jsp_model.specs.declared.step.Step.{Step}
use Rattle.jsp_model.specs.declared.step.Step.TheVariants as step
use Rattle.jsp_model.specs.Changes.{accepted, add_row, cancel, cancel_one, cast, close, commit, committed, extend, forget, give_or_block, join, new_row, open_set, open_session, owe, published, register, remove, renew, renew_one, set_version, write}
use Rattle.jsp_model.specs.Lookup.{blocked_of, is_open, joined_at, named, rank_of}
use Rattle.jsp_model.specs.Refusals.{lease_tests, refusal, renew_tests}
use Rattle.jsp_model.specs.Requests.{RowRequest, WriteRequest, all_entries, as_blocked, caller_of, many_rows, one_entry, one_row, place_of, would_block}
use Rattle.jsp_model.specs.Steps.{after_ask, after_grant, change, is_legal, is_too_long, next}
use Rattle.jsp_laws.proofs.Lists.{Each, each_any, each_append, each_filter, each_touched, each_weaker, fold_keeps}

-- ---- what stays

-- the sessions stay, and so does the last one
record Stay (old new : State) : Type 0 where
  sessions : new.sessions ≡ old.sessions
  last : new.last_session ≡ old.last_session

stay : (st : State) → Stay st st
stay st = record { sessions = refl; last = refl }

stay_both : (a b c : State) → Stay a b → Stay b c → Stay a c
stay_both a b c p q = record { sessions = q.sessions ∙ p.sessions; last = q.last ∙ p.last }

stay_choice : (b : Bool) (st x y : State) → Stay st x → Stay st y → Stay st (if b then x else y)
stay_choice true st x y p q = p
stay_choice false st x y p q = q

stay_folded : {A : Type 0} (f : State → A → State) → ((st : State) (x : A) → Stay st (f st x)) → (xs : List A) (st : State) → Stay st (fold f st xs)
stay_folded f h xs st = fold_keeps (Stay st) f (λ b x p. stay_both st b (f b x) p (h b x)) xs st (stay st)

joins : (st : State) (x : Option ℕ) (space : ℕ) → Stay st (join st x space)
joins st None space = stay st
joins st (Some x) space = stay_choice (is_some (joined_at st x space)) st _ _ (stay st) (record { sessions = refl; last = refl })

writes : (st : State) (w : WriteRequest) → Stay st (write st w)
writes st w =
    let joined = join st (caller_of w.txn) (place_of st w.space) in
    stay_both st joined (write st w) (joins st (caller_of w.txn) (place_of st w.space))
    (stay_folded (λ b raw. add_row b (new_row b w raw)) (λ b raw. record { sessions = refl; last = refl }) w.entries joined)

seeks : (st : State) (s id : ℕ) (q : RowRequest) (ns : List ℕ) → Stay st (give_or_block st s id q ns)
seeks st s id q ns =
    let b = as_blocked st s id q in
    let joined = joins st b.transaction b.space in
    stay_choice (would_block st s id q) st _ _ (record { sessions = joined.sessions; last = joined.last }) (record { sessions = joined.sessions; last = joined.last })

registers : (st : State) (s : ℕ) (q : Notify) → Stay st (register st s q)
registers st s q = let joined = joins st (caller_of q.txn) (place_of st q.space) in record { sessions = joined.sessions; last = joined.last }

opens_set : (st : State) (s : ℕ) (q : Contents) → Stay st (open_set st s q)
opens_set st s q = let joined = joins st (caller_of q.txn) (place_of st q.space) in record { sessions = joined.sessions; last = joined.last }

extends : (st : State) (end : ℕ) (r : Rank) (n : ℕ) → Stay st (extend st end r n)
extends st end rank.Entry n = record { sessions = refl; last = refl }
extends st end rank.Registration n = record { sessions = refl; last = refl }
extends st end rank.Transaction n = record { sessions = refl; last = refl }
extends st end rank.Blocked n = stay st
extends st end rank.MatchSet n = record { sessions = refl; last = refl }

removes : (st : State) (r : Rank) (n : ℕ) → Stay st (remove st r n)
removes st rank.Entry n = record { sessions = refl; last = refl }
removes st rank.Registration n = record { sessions = refl; last = refl }
removes st rank.Transaction n = record { sessions = refl; last = refl }
removes st rank.Blocked n = record { sessions = refl; last = refl }
removes st rank.MatchSet n = record { sessions = refl; last = refl }

-- where something is found it is changed
at_found : {A : Type 0} (st : State) (f : A → State) → ((x : A) → Stay st (f x)) → (o : Option A) → Stay st (option_map_or f o st)
at_found st f h None = stay st
at_found st f h (Some x) = h x

renews : (st : State) (lease ms : ℤ) → Stay st (renew st lease ms)
renews st lease ms = at_found st _ (λ r. extends st _ r (named lease)) (rank_of st (named lease))

cancels : (st : State) (lease : ℤ) → Stay st (cancel st lease)
cancels st lease = at_found st _ (λ r. removes st r (named lease)) (rank_of st (named lease))

renews_one : (st : State) (l : ℤ × ℤ) → Stay st (renew_one st l)
renews_one st l = stay_choice (is_some (first_that (renew_tests st l.0 l.1))) st _ _ (stay st) (renews st l.0 l.1)

cancels_one : (st : State) (lease : ℤ) → Stay st (cancel_one st lease)
cancels_one st lease = stay_choice (is_some (first_that (lease_tests st lease))) st _ _ (stay st) (cancels st lease)

commit_stays : (st : State) (x : ℕ) → Stay st (commit st x)
commit_stays st x =
    let after = record (forget st x) { rows = committed x st.rows } in
    stay_both st after (commit st x) (record { sessions = refl; last = refl })
    (stay_folded (owe None) (λ b row. record { sessions = refl; last = refl }) (published x st.rows) after)

grants : (st : State) (n : ℕ) (ns : List ℕ) (o : Option Blocked) → Stay st (after_grant st n ns o)
grants st n ns None = stay st
grants st n ns (Some b) = record { sessions = refl; last = refl }

-- ---- what keeps the numbers

abbrev IsWithin : ℕ → Session → Type 0
IsWithin last k = (1 ≤ k.number) × (k.number ≤ last)

-- each session has a number from 1 to the last one's
abbrev pub AreNumbered : State → Type 0
AreNumbered st = Each (IsWithin st.last_session) st.sessions

pub record Keeps (old new : State) : Type 0 where
  pub numbered : AreNumbered old → AreNumbered new
  pub rises : old.last_session ≤ new.last_session

keeps : (old new : State) → Stay old new → Keeps old new
keeps old new s = record {
  numbered = λ h. rw (s.sessions, s.last) h;
  rises = omega (arith, s.last);
}

keeps_choice : (b : Bool) (st x y : State) → Keeps st x → Keeps st y → Keeps st (if b then x else y)
keeps_choice true st x y p q = p
keeps_choice false st x y p q = q

closes : (st : State) (s : ℕ) → Keeps st (close st s)
closes st s = record {
  numbered = λ h. each_filter (IsWithin st.last_session) (λ k. not (eqb k.number s)) st.sessions h;
  rises = omega arith;
}

sets_version : (st : State) (s : ℕ) (v : Version) → Keeps st (set_version st s v)
sets_version st s v = record {
  numbered = λ h. each_touched (IsWithin st.last_session) (λ k. eqb k.number s) (λ (k : Session). record k { version = v }) (λ k w. w) st.sessions h;
  rises = omega arith;
}

opens : (st : State) (s : ℕ) → (nat_le 1 s && nat_lt st.last_session s && nat_le s LAST_SESSION) ≡ true → Keeps st (open_session st s)
opens st s legal =
    let outer = and_parts (nat_le 1 s && nat_lt st.last_session s) (nat_le s LAST_SESSION) legal in
    let both = and_parts (nat_le 1 s) (nat_lt st.last_session s) outer.0 in
    let first : 1 ≤ s = leb-true 1 s both.0 in
    let later = ltb-true st.last_session s both.1 in
    record {
      numbered = λ h. each_append (IsWithin s) st.sessions _ (each_weaker (IsWithin st.last_session) (IsWithin s) (λ k w. (w.0, omega (arith, w.1, later))) st.sessions h) ((first, omega arith), tt);
      rises = omega (arith, later);
    }

accepts : (st : State) (s id : ℕ) (ns : List ℕ) (a : Ask) → Keeps st (accepted st s id ns a)
accepts st s id ns (ask.Declare d) = keeps st _ (record { sessions = refl; last = refl })
accepts st s id ns (ask.Write w) = keeps st _ (writes st (one_entry w))
accepts st s id ns (ask.Read q) = keeps st _ (seeks st s id (one_row form.Read q) ns)
accepts st s id ns (ask.ReadIf q) = keeps st _ (seeks st s id (one_row form.ReadIf q) ns)
accepts st s id ns (ask.Take q) = keeps st _ (seeks st s id (one_row form.Take q) ns)
accepts st s id ns (ask.TakeIf q) = keeps st _ (seeks st s id (one_row form.TakeIf q) ns)
accepts st s id ns (ask.Notify q) = keeps st _ (registers st s q)
accepts st s id ns (ask.Renew lease ms) = keeps st _ (renews st lease ms)
accepts st s id ns (ask.Cancel lease) = keeps st _ (cancels st lease)
accepts st s id ns (ask.RenewAll leases) = keeps st _ (stay_folded renew_one renews_one leases st)
accepts st s id ns (ask.CancelAll leases) = keeps st _ (stay_folded cancel_one cancels_one leases st)
accepts st s id ns (ask.Txn lease) = keeps st _ (record { sessions = refl; last = refl })
accepts st s id ns (ask.Commit x) = keeps st _ (record { sessions = refl; last = refl })
accepts st s id ns (ask.Abort x) = keeps st _ (record { sessions = refl; last = refl })
accepts st s id ns (ask.State x) = keeps st _ (stay st)
accepts st s id ns (ask.Reset space) = keeps st _ (record { sessions = refl; last = refl })
accepts st s id ns ask.Spaces = keeps st _ (stay st)
accepts st s id ns ask.Bye = closes st s
accepts st s id ns (ask.Hello v) = sets_version st s v
accepts st s id ns (ask.WriteAll w) = keeps st _ (writes st (all_entries w))
accepts st s id ns (ask.TakeMany q) = keeps st _ (seeks st s id (many_rows q) ns)
accepts st s id ns (ask.Contents q) = keeps st _ (opens_set st s q)
accepts st s id ns (ask.Next set most) = keeps st _ (record { sessions = refl; last = refl })
accepts st s id ns (ask.CloseSet set) = keeps st _ (record { sessions = refl; last = refl })

asks : (st : State) (s id : ℕ) (ns : List ℕ) (a : Ask) (o : Option Refusal) → Keeps st (after_ask st s id ns a o)
asks st s id ns a None = accepts st s id ns a
asks st s id ns a (Some r) = keeps st st (stay st)

changes : (st : State) (x : Step) → is_legal st x ≡ true → Keeps st (change st x)
unfolding is_legal
changes st (step.Open s) legal = opens st s legal
changes st (step.Shut s) legal = closes st s
changes st (step.Clock t) legal = keeps st _ (record { sessions = refl; last = refl })
changes st (step.Ask s a ns) legal = asks st s a.id ns a.ask (refusal st s a.id a.ask)
changes st (step.Fault s id r) legal = keeps_choice (is_too_long r) st (close st s) st (closes st s) (keeps st st (stay st))
changes st (step.Grant n ns) legal = keeps st _ (grants st n ns (blocked_of st n))
changes st (step.Empty n) legal = keeps st _ (record { sessions = refl; last = refl })
changes st (step.Tell n) legal = keeps st _ (record { sessions = refl; last = refl })
changes st (step.Due item) legal = keeps st _ (removes st item.rank item.number)
changes st (step.Vote x space) legal = keeps st _ (at_found st (cast st x) (λ j. record { sessions = refl; last = refl }) (joined_at st x space))
changes st (step.Decide x commits) legal = keeps_choice commits st _ _ (keeps st _ (commit_stays st x)) (keeps st _ (record { sessions = refl; last = refl }))
changes st (step.HandOut s n) legal = keeps st st (stay st)

pub keeps_next : (st : State) (x : Step) → is_legal st x ≡ true → Keeps st (next st x)
unfolding next
keeps_next st x legal = let h = changes st x legal in record { numbered = h.numbered; rises = h.rises }

-- who is open is within them
pub open_within : (st : State) (s : ℕ) → AreNumbered st → is_open st s ≡ true → (1 ≤ s) × (s ≤ st.last_session)
open_within st s h opened =
    let k = each_any (IsWithin st.last_session) (λ k. eqb k.number s) st.sessions h opened in
    let same : k.0.number ≡ s = eqb-true k.0.number s k.2 in
    subst (λ n. (1 ≤ n) × (n ≤ st.last_session)) same k.1

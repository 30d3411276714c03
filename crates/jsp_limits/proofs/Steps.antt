-- Each legal step keeps the limits.
use Rattle.std.proofs.Common.{◌≡◌, ℕ, ℤ, ◌+◌, ◌<◌, ◌≤◌, ◌^◌, Bool, true, not, nat_lt, nat_le, min, max, List, length, Option, Some, None, refl, arith}
use Rattle.std.specs.Prelude.{◌&&◌, ◌||◌, ◌==◌, fold, IsTrue}
use Rattle.std.proofs.lemmas.Bool.{and_parts, and_from, ltb-true, leb-true, or_parts}
use Rattle.jsp_types.specs.declared.class.Class.{Class}
use Rattle.jsp_types.specs.Classes.{is_ill_formed, declared}
use Rattle.jsp_types.specs.declared.entry.Raw.{Raw}
use Rattle.jsp_wire.specs.declared.ask.Ask.{Ask}
use Rattle.jsp_wire.specs.declared.ask.Ask.TheVariants as ask
use Rattle.jsp_wire.specs.declared.ask.Version.TheVariants as version
use Rattle.jsp_wire.specs.Limits.{has_fitting_parts, is_between}
use Rattle.jsp_reply.specs.declared.refusal.Refusal.{Refusal}
use Rattle.jsp_model.specs.declared.state.State.{State}
use Rattle.jsp_model.specs.declared.state.Session.{Session}
use Rattle.jsp_model.specs.declared.state.Outbox.{Outbox}
use Rattle.jsp_model.specs.declared.state.Blocked.{Blocked}
use Rattle.jsp_model.specs.declared.state.Form.TheVariants as form
use Rattle.jsp_model.specs.declared.step.Step.{Step}
use Rattle.jsp_model.specs.declared.step.Step.TheVariants as step
use Rattle.jsp_model.specs.Lookup.{named, blocked_of}
use Rattle.jsp_model.specs.Refusals.{tests, refusal, write_tests, rows_tests, grant_tests}
use Rattle.jsp_model.specs.Requests.{WriteRequest, RowRequest, one_row, many_rows, one_entry, all_entries, place_of, class_asked}
use Rattle.jsp_model.specs.Changes.{open_session, close, abort, commit, accepted}
use Rattle.jsp_model.specs.Steps.{is_legal, after_ask, is_too_long, after_grant, change, after_hand_out, next}
use Rattle.jsp_model.specs.Outboxes.{post}
use Rattle.jsp_model.specs.Answers.{is_many, said}
use Rattle.jsp_model.specs.Limits.{are_outboxes, has_fitting_request, AreClasses, IsWithinLimits}
use Rattle.jsp_limits.proofs.Lists.{rising_push}
use Rattle.jsp_limits.proofs.Classes.{class_declared}
use Rattle.jsp_limits.proofs.Goes.{limits_close, limits_version, limits_give, limits_keep_blocked, limits_keep_sets, limits_tell, limits_turn, limits_abort, limits_vote, limits_remove, limits_renew, limits_cancel, limits_renew_all, limits_cancel_all, limits_choice}
use Rattle.jsp_limits.proofs.Commits.{limits_commit}
use Rattle.jsp_limits.proofs.Requests.{not_over, Room, limits_write, Seeks, limits_seek, Leases, limits_register, limits_open_set, limits_begin, limits_ask_commit, limits_reset}
use Rattle.jsp_limits.proofs.Outboxes.{outboxes_after}
use Rattle.jsp_laws.proofs.Made.{Failed, all_failed}

-- ---- tests that failed

-- the tests of a write leave room
writes : (st : State) (w : WriteRequest) → IsWithinLimits st → Failed (write_tests st w) → Room st w w.entries
writes st w h (_, (_, (_, (_, (known, (good, (_, (room, (numbers, _))))))))) =
    record { limits = h; rows = not_over 65536 _ room; numbers = not_over (2 ^ 62 + 1) _ numbers; known = known; good = good }

abbrev fits_rows : RowRequest → Bool
fits_rows q = is_between 1 8 (length q.templates) && is_between 1 16 q.most && (is_many q.form || q.most == 1)

pub seeks : (st : State) (s id : ℕ) (q : RowRequest) → fits_rows q ≡ true → Failed (rows_tests st s id q) → Seeks st s id q
seeks st s id q fits (_, (_, (_, (_, (known, (good, (_, (waiting, (numbers, _))))))))) =
    let all = and_parts (is_between 1 8 (length q.templates) && is_between 1 16 q.most) (is_many q.form || q.most == 1) fits in
    let both = and_parts (is_between 1 8 (length q.templates)) (is_between 1 16 q.most) all.0 in
    let templates = and_parts (nat_le 1 (length q.templates)) (nat_le (length q.templates) 8) both.0 in
    let most = and_parts (nat_le 1 q.most) (nat_le q.most 16) both.1 in
    record { some_templates = templates.0; few_templates = templates.1; some_rows = most.0; few_rows = most.1; one_or_many = all.1; known = known; good = good; waiting = waiting; numbers = numbers }

leases : (st : State) (space : List ℕ) (template : Option Raw) (lease : ℤ) (txn : Option ℤ) (count most : ℕ) → Failed (grant_tests st space template lease txn (nat_le most count)) → Leases st template count most
leases st space template lease txn count most (_, (_, (_, (_, (known, (good, (_, (room, (numbers, _))))))))) =
    record { known = known; good = good; room = room; numbers = numbers }

-- ---- requests

limits_classes : (st : State) (classes : List Class) → IsWithinLimits st → AreClasses classes → IsWithinLimits (record st { classes = classes })
limits_classes st classes h are = record {
  classes = are;
  spaces = h.spaces;
  sessions = h.sessions;
  time = h.time;
  next_number = h.next_number;
  rows = h.rows;
  registrations = h.registrations;
  sequences = h.sequences;
  blocked = h.blocked;
  transactions = h.transactions;
  sets = h.sets;
  commits = h.commits;
  waiting = h.waiting;
  numbers = h.numbers;
  outboxes = h.outboxes;
}

pub limits_accepted : (st : State) (s id : ℕ) (ns : List ℕ) (a : Ask) → IsWithinLimits st → Failed (tests st s id a) → has_fitting_parts a ≡ true → IsWithinLimits (accepted st s id ns a)
limits_accepted st s id ns (ask.Declare d) h f fits =
    limits_classes st (declared st.classes (class_asked d)) h (class_declared st.classes (class_asked d) h.classes
    (record { formed = (or_parts _ (is_ill_formed (class_asked d)) f.1.0).1; parent = f.1.1.1.0; inherits = f.1.1.1.1.0; room = f.1.1.1.1.1.0 }))
limits_accepted st s id ns (ask.Write w) h f fits = limits_write st (one_entry w) (writes st (one_entry w) h f.1)
limits_accepted st s id ns (ask.Read q) h f fits = limits_seek st s id (one_row form.Read q) ns h (seeks st s id (one_row form.Read q) refl f.1)
limits_accepted st s id ns (ask.ReadIf q) h f fits = limits_seek st s id (one_row form.ReadIf q) ns h (seeks st s id (one_row form.ReadIf q) refl f.1)
limits_accepted st s id ns (ask.Take q) h f fits = limits_seek st s id (one_row form.Take q) ns h (seeks st s id (one_row form.Take q) refl f.1)
limits_accepted st s id ns (ask.TakeIf q) h f fits = limits_seek st s id (one_row form.TakeIf q) ns h (seeks st s id (one_row form.TakeIf q) refl f.1)
limits_accepted st s id ns (ask.Notify q) h f fits = limits_register st s q h (leases st q.space q.template q.lease q.txn (length st.registrations) 4096 f.1) fits
limits_accepted st s id ns (ask.Renew lease ms) h f fits = limits_renew st lease ms h
limits_accepted st s id ns (ask.Cancel lease) h f fits = limits_cancel st lease h
limits_accepted st s id ns (ask.RenewAll leases) h f fits = limits_renew_all st leases h
limits_accepted st s id ns (ask.CancelAll leases) h f fits = limits_cancel_all st leases h
limits_accepted st s id ns (ask.Txn lease) h f fits = limits_begin st lease h f.1.1.0 f.1.1.1.0
limits_accepted st s id ns (ask.Commit x) h f fits = limits_ask_commit st s id (named x) h f.1.1.0 f.1.1.1.0
limits_accepted st s id ns (ask.Abort x) h f fits = limits_abort st (named x) h
limits_accepted st s id ns (ask.State x) h f fits = h
limits_accepted st s id ns (ask.Reset space) h f fits = limits_reset st (place_of st space) h f.1.1.1.0
limits_accepted st s id ns ask.Spaces h f fits = h
limits_accepted st s id ns ask.Bye h f fits = limits_close st s h
limits_accepted st s id ns (ask.Hello v) h f fits = limits_version st s v h
limits_accepted st s id ns (ask.WriteAll w) h f fits = limits_write st (all_entries w) (writes st (all_entries w) h f.1)
limits_accepted st s id ns (ask.TakeMany q) h f fits = limits_seek st s id (many_rows q) ns h (seeks st s id (many_rows q) (and_from (has_fitting_parts (ask.TakeMany q)) true fits refl) f.1)
limits_accepted st s id ns (ask.Contents q) h f fits = limits_open_set st s q h (leases st q.space q.template q.lease q.txn (length st.sets) 1024 f.1)
limits_accepted st s id ns (ask.Next set most) h f fits = limits_turn st (named set) most h
limits_accepted st s id ns (ask.CloseSet set) h f fits = limits_keep_sets st (λ m. not (m.number == named set)) h

limits_asked : (st : State) (s id : ℕ) (ns : List ℕ) (a : Ask) (o : Option Refusal) → refusal st s id a ≡ o → IsWithinLimits st → has_fitting_parts a ≡ true → IsWithinLimits (after_ask st s id ns a o)
unfolding refusal
limits_asked st s id ns a None e h fits = limits_accepted st s id ns a h (all_failed (tests st s id a) e) fits
limits_asked st s id ns a (Some r) e h fits = h

-- ---- other steps

limits_open : (st : State) (s : ℕ) → IsWithinLimits st → (nat_le 1 s && nat_lt st.last_session s && nat_le s (2 ^ 31)) ≡ true → IsWithinLimits (open_session st s)
limits_open st s h e =
    let outer = and_parts (nat_le 1 s && nat_lt st.last_session s) (nat_le s (2 ^ 31)) e in
    let above = ltb-true st.last_session s (and_parts (nat_le 1 s) (nat_lt st.last_session s) outer.0).1 in
    let k : Session = record { number = s; version = version.One } in
    let more : st.last_session + 1 ≤ s = omega (arith, above) in
    let below : s < s + 1 = omega arith in
    record {
      classes = h.classes;
      spaces = h.spaces;
      sessions = record { most = leb-true s (2 ^ 31) outer.1; rising = rising_push (λ (k : Session). k.number) 0 (st.last_session + 1) (s + 1) st.sessions k more below h.sessions.rising };
      time = h.time;
      next_number = h.next_number;
      rows = h.rows;
      registrations = h.registrations;
      sequences = h.sequences;
      blocked = h.blocked;
      transactions = h.transactions;
      sets = h.sets;
      commits = h.commits;
      waiting = h.waiting;
      numbers = h.numbers;
      outboxes = h.outboxes;
    }

limits_clock : (st : State) (t : ℕ) → IsWithinLimits st → IsWithinLimits (record st { time = max st.time (min t (2 ^ 62)) })
limits_clock st t h =
    let was = h.time in
    record {
      classes = h.classes;
      spaces = h.spaces;
      sessions = h.sessions;
      time = omega (arith, was);
      next_number = h.next_number;
      rows = h.rows;
      registrations = h.registrations;
      sequences = h.sequences;
      blocked = h.blocked;
      transactions = h.transactions;
      sets = h.sets;
      commits = h.commits;
      waiting = h.waiting;
      numbers = h.numbers;
      outboxes = h.outboxes;
    }

limits_outboxes : (st : State) (boxes : List Outbox) → IsWithinLimits st → are_outboxes boxes ≡ true → IsWithinLimits (record st { outboxes = boxes })
limits_outboxes st boxes h are = record {
  classes = h.classes;
  spaces = h.spaces;
  sessions = h.sessions;
  time = h.time;
  next_number = h.next_number;
  rows = h.rows;
  registrations = h.registrations;
  sequences = h.sequences;
  blocked = h.blocked;
  transactions = h.transactions;
  sets = h.sets;
  commits = h.commits;
  waiting = h.waiting;
  numbers = h.numbers;
  outboxes = are;
}

limits_granted : (st : State) (n : ℕ) (ns : List ℕ) (o : Option Blocked) → IsWithinLimits st → IsWithinLimits (after_grant st n ns o)
limits_granted st n ns None h = h
limits_granted st n ns (Some b) h = limits_keep_blocked _ (λ b. not (b.number == n)) (limits_give st b ns h)

limits_change : (st : State) (act : Step) → IsWithinLimits st → is_legal st act ≡ true → has_fitting_request act ≡ true → IsWithinLimits (change st act)
unfolding is_legal
limits_change st (step.Open s) h e fits = limits_open st s h e
limits_change st (step.Shut s) h e fits = limits_close st s h
limits_change st (step.Clock t) h e fits = limits_clock st t h
limits_change st (step.Ask s a ns) h e fits = limits_asked st s a.id ns a.ask (refusal st s a.id a.ask) refl h fits
limits_change st (step.Fault s id r) h e fits = limits_choice (is_too_long r) (close st s) st (limits_close st s h) h
limits_change st (step.Grant n ns) h e fits = limits_granted st n ns (blocked_of st n) h
limits_change st (step.Empty n) h e fits = limits_keep_blocked st (λ b. not (b.number == n)) h
limits_change st (step.Tell n) h e fits = limits_tell st n h e
limits_change st (step.Due item) h e fits = limits_remove st item.rank item.number h
limits_change st (step.Vote x space) h e fits = limits_vote st x space h
limits_change st (step.Decide x commits) h e fits = limits_choice commits (commit st x) (abort st x) (limits_commit st x h) (limits_abort st x h)
limits_change st (step.HandOut s n) h e fits = h

-- Each legal step of a state within its limits, whose request keeps the limits of the wire, leads to such a state.
pub limits_stay : (st : State) (act : Step) → IsWithinLimits st → IsTrue (is_legal st act) → IsTrue (has_fitting_request act) → IsWithinLimits (next st act)
unfolding next
limits_stay st act h e fits = limits_outboxes (change st act) (after_hand_out act (fold post st.outboxes (said st act))) (limits_change st act h e fits) (outboxes_after act (said st act) st.outboxes h.outboxes)

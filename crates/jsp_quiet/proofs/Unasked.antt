-- What steps that nobody asked for leave as it is: the sessions, the asked commits, and the votes on what they would
-- commit. So an input is accepted after them as before, and the next settle turn is the same.
use Rattle.std.proofs.Common.{◌≡◌, refl, ap, sym, ◌∙◌, subst, ℕ, List, [], ◌∷◌, Bool, true, false, not, cond, ◌&&◌, Option, Some, None, is_some, ◌==◌, nat_lt, nat_le, true≢false}
use Rattle.std.specs.Prelude.{find, filter}
use Rattle.std.specs.List.{list_any, list_all}
use Rattle.std.specs.Option.{option_map_or}
use Rattle.std.proofs.lemmas.Bool.{and_from, eqb-true, eq-eqb, not-true}
use Rattle.jsp_lease.specs.declared.item.Item.{Item}
use Rattle.jsp_lease.specs.declared.item.Rank.{Rank}
use Rattle.jsp_lease.specs.declared.item.Rank.TheVariants as rank
use Rattle.jsp_lease.specs.Due.{first_item, is_before, is_item, over_by, rank_number}
use Rattle.jsp_model.specs.declared.state.State.{State}
use Rattle.jsp_model.specs.declared.state.Row.{Row}
use Rattle.jsp_model.specs.declared.state.Registration.{Registration}
use Rattle.jsp_model.specs.declared.state.Blocked.{Blocked}
use Rattle.jsp_model.specs.declared.state.Transaction.{Transaction}
use Rattle.jsp_model.specs.declared.state.MatchSet.{MatchSet}
use Rattle.jsp_model.specs.declared.state.Commit.{Commit}
use Rattle.jsp_model.specs.declared.state.Joined.{Joined}
use Rattle.jsp_model.specs.declared.step.Step.{Step}
use Rattle.jsp_model.specs.declared.step.Step.TheVariants as step
use Rattle.jsp_model.specs.declared.house.Input.{Input}
use Rattle.jsp_model.specs.declared.house.Input.TheVariants as input
use Rattle.jsp_model.specs.Lookup.{is_voting, joined_of, blocked_of}
use Rattle.jsp_model.specs.Due.{due, items}
use Rattle.jsp_model.specs.Quiet.{are_quiet}
use Rattle.jsp_model.specs.Touches.{touches}
use Rattle.jsp_model.specs.Changes.{remove}
use Rattle.jsp_model.specs.Steps.{is_legal, next, after_grant}
use Rattle.jsp_model.specs.Runs.{is_run, state_after, IsRun}
use Rattle.jsp_model.specs.Settling.{settle_step, turn_at}
use Rattle.jsp_model.specs.House.{is_unasked, own_of, accepts}
use Rattle.jsp_laws.proofs.Lists.{Each, each_map, each_append, each_kept, each_filter}
use Rattle.jsp_laws.proofs.Made.{and_both, each_true}
use Rattle.jsp_laws.proofs.Joins.{without_other}
use Rattle.jsp_model.specs.declared.limits.TheConstants.{LAST_SESSION}

-- ---- what they leave

-- the sessions, the asked commits, and the votes on what they would commit
pub record LeavesVotes (old new : State) : Type 0 where
  pub sessions : new.sessions ≡ old.sessions
  pub last_session : new.last_session ≡ old.last_session
  pub commits : new.commits ≡ old.commits
  pub joined : (x : ℕ) → is_voting old x ≡ true → joined_of new x ≡ joined_of old x

leaves_itself : (st : State) → LeavesVotes st st
leaves_itself st = record { sessions = refl; last_session = refl; commits = refl; joined = λ x h. refl }

leaves_both : (a b c : State) → LeavesVotes a b → LeavesVotes b c → LeavesVotes a c
leaves_both a b c p q = record {
  sessions = q.sessions ∙ p.sessions;
  last_session = q.last_session ∙ p.last_session;
  commits = q.commits ∙ p.commits;
  joined = λ x h. q.joined x (ap (λ (cs : List Commit). is_some (find (λ (k : Commit). k.transaction == x) cs)) p.commits ∙ h) ∙ p.joined x h;
}

-- ---- what is due doesn't vote

abbrev DoesNotVote : State → Item → Type 0
DoesNotVote st i = (rank_number i.rank == 2) ≡ true → is_voting st i.number ≡ false

items_do_not : (st : State) → Each (DoesNotVote st) (items st)
items_do_not st =
    each_append (DoesNotVote st) _ _
    (each_append (DoesNotVote st) _ _
    (each_append (DoesNotVote st) _ _
    (each_append (DoesNotVote st) _ _
    (each_map (λ (r : Row). Unit {0}) (DoesNotVote st) (λ r. record { end = r.end; rank = rank.Entry; number = r.number }) (λ r k e. absurd (cc)) st.rows (each_true st.rows))
    (each_map (λ (r : Registration). Unit {0}) (DoesNotVote st) (λ r. record { end = r.end; rank = rank.Registration; number = r.number }) (λ r k e. absurd (cc)) st.registrations (each_true st.registrations)))
    (each_map (λ (t : Transaction). not (is_voting st t.number) ≡ true) (DoesNotVote st) (λ t. record { end = t.end; rank = rank.Transaction; number = t.number }) (λ t k e. not-true (is_voting st t.number) k) (filter (λ t. not (is_voting st t.number)) st.transactions)
    (each_kept (λ (t : Transaction). Unit {0}) (λ (t : Transaction). not (is_voting st t.number) ≡ true) (λ t. not (is_voting st t.number)) (λ t k u. k) st.transactions (each_true st.transactions))))
    (each_map (λ (b : Blocked). Unit {0}) (DoesNotVote st) (λ b. record { end = b.end; rank = rank.Blocked; number = b.number }) (λ b k e. absurd (cc)) st.blocked (each_true st.blocked)))
    (each_map (λ (m : MatchSet). Unit {0}) (DoesNotVote st) (λ m. record { end = m.end; rank = rank.MatchSet; number = m.number }) (λ m k e. absurd (cc)) st.sets (each_true st.sets))

first_each : (P : Item → Type 0) (xs : List Item) (i : Item) → Each P xs → first_item xs ≡ Some i → P i
first_each P [] i h e = absurd (cc)
first_each P (x ∷ xs) i (h, hs) e = go (first_item xs) refl e (λ j k. first_each P xs j hs k)
  where
    go : (o : Option Item) → first_item xs ≡ o → Some (option_map_or (λ b. cond (is_before b x) b x) o x) ≡ Some i → ((j : Item) → first_item xs ≡ Some j → P j) → P i
    go None k q ih = subst P (cc (q)) h
    go (Some j) k q ih = which (is_before j x) q
      where
        which : (b : Bool) → Some (cond b j x) ≡ Some i → P i
        which true z = subst P (cc (z)) (ih j k)
        which false z = subst P (cc (z)) h

middle : (a b c : Bool) → (a && b && c) ≡ true → (b ≡ true) × (c ≡ true)
middle true true true e = (refl, refl)
middle true true false e = absurd (cc)
middle true false c e = absurd (cc)
middle false b c e = absurd (cc)

due_does_not : (st : State) (item : Item) (o : Option Item) → due st ≡ o → option_map_or (is_item item) o false ≡ true → DoesNotVote st item
unfolding due
due_does_not st item None k e q = absurd (cc)
due_does_not st item (Some i) k e q =
    let none : DoesNotVote st i = first_each (DoesNotVote st) (over_by st.time (items st)) i (each_filter (DoesNotVote st) (λ (z : Item). nat_le z.end st.time) (items st) (items_do_not st)) k in
    let parts = middle (item.end == i.end) (rank_number item.rank == rank_number i.rank) (item.number == i.number) e in
    let same : item.number ≡ i.number = eqb-true item.number i.number parts.1 in
    let rank_same : rank_number item.rank ≡ rank_number i.rank = eqb-true (rank_number item.rank) (rank_number i.rank) parts.0 in
    subst (λ n. is_voting st n ≡ false) (sym same) (none (ap (λ n. n == 2) (sym rank_same) ∙ q))

-- ---- so they leave the votes

kept_all : (n : ℕ) (cs : List Commit) → is_some (find (λ (c : Commit). c.transaction == n) cs) ≡ false → filter (λ (c : Commit). not (c.transaction == n)) cs ≡ cs
kept_all n [] h = refl
kept_all n (c ∷ cs) h = go (c.transaction == n) refl h (kept_all n cs)
  where
    go : (b : Bool) → (c.transaction == n) ≡ b → is_some (find (λ (c : Commit). c.transaction == n) (c ∷ cs)) ≡ false
        → (is_some (find (λ (c : Commit). c.transaction == n) cs) ≡ false → filter (λ (c : Commit). not (c.transaction == n)) cs ≡ cs)
        → filter (λ (c : Commit). not (c.transaction == n)) (c ∷ cs) ≡ c ∷ cs
    go true k q ih = absurd (cc (rw k at q))
    go false k q ih = rw k (ap (λ w. c ∷ w) (ih (rw k at q)))

apart : (st : State) (x n : ℕ) → is_voting st x ≡ true → is_voting st n ≡ false → (x == n) ≡ false
apart st x n h k = go (x == n) refl
  where
    go : (b : Bool) → (x == n) ≡ b → b ≡ false
    go true e = let w : is_voting st n ≡ true = subst (λ m. is_voting st m ≡ true) (eqb-true x n e) h in absurd (true≢false (sym w ∙ k))
    go false e = refl

removed_leaves : (st : State) (r : Rank) (n : ℕ) → ((rank_number r == 2) ≡ true → is_voting st n ≡ false) → LeavesVotes st (remove st r n)
removed_leaves st rank.Entry n h = record { sessions = refl; last_session = refl; commits = refl; joined = λ x k. refl }
removed_leaves st rank.Registration n h = record { sessions = refl; last_session = refl; commits = refl; joined = λ x k. refl }
removed_leaves st rank.Transaction n h = record { sessions = refl; last_session = refl; commits = kept_all n st.commits (h refl); joined = λ x k. without_other n x (apart st x n k (h refl)) st.transactions }
removed_leaves st rank.Blocked n h = record { sessions = refl; last_session = refl; commits = refl; joined = λ x k. refl }
removed_leaves st rank.MatchSet n h = record { sessions = refl; last_session = refl; commits = refl; joined = λ x k. refl }

granted_leaves : (st : State) (n : ℕ) (ns : List ℕ) (b : Option Blocked) → LeavesVotes st (after_grant st n ns b)
granted_leaves st n ns None = leaves_itself st
granted_leaves st n ns (Some b) = record { sessions = refl; last_session = refl; commits = refl; joined = λ x k. refl }

-- outboxes don't matter
leaves_plain : (st now new : State) → LeavesVotes st now → new.sessions ≡ now.sessions → new.last_session ≡ now.last_session → new.commits ≡ now.commits → new.transactions ≡ now.transactions → LeavesVotes st new
leaves_plain st now new h s l c t = record {
  sessions = s ∙ h.sessions;
  last_session = l ∙ h.last_session;
  commits = c ∙ h.commits;
  joined = λ x k. ap (λ (ts : List Transaction). option_map_or (λ (t : Transaction). t.joined) (find (λ (t : Transaction). t.number == x) ts) []) t ∙ h.joined x k;
}

due_item : (st : State) (item : Item) → is_legal st (step.Due item) ≡ true → option_map_or (is_item item) (due st) false ≡ true
unfolding is_legal
due_item st item legal = (and_both (option_map_or (is_item item) (due st) false) (are_quiet st (touches st (step.Due item))) legal).0

free_leaves : (st : State) (x : Step) → is_legal st x ≡ true → is_unasked x ≡ true → LeavesVotes st (next st x)
unfolding next
free_leaves st (step.Grant n ns) legal free = leaves_plain st (after_grant st n ns (blocked_of st n)) (next st (step.Grant n ns)) (granted_leaves st n ns (blocked_of st n)) refl refl refl refl
free_leaves st (step.Empty n) legal free = record { sessions = refl; last_session = refl; commits = refl; joined = λ x k. refl }
free_leaves st (step.Tell n) legal free = record { sessions = refl; last_session = refl; commits = refl; joined = λ x k. refl }
free_leaves st (step.Due item) legal free =
    leaves_plain st (remove st item.rank item.number) (next st (step.Due item))
    (removed_leaves st item.rank item.number (due_does_not st item (due st) refl (due_item st item legal))) refl refl refl refl
free_leaves st (step.Open s) legal free = absurd (cc)
free_leaves st (step.Shut s) legal free = absurd (cc)
free_leaves st (step.Clock t) legal free = absurd (cc)
free_leaves st (step.Ask s a ns) legal free = absurd (cc)
free_leaves st (step.Fault s id r) legal free = absurd (cc)
free_leaves st (step.Vote x space) legal free = absurd (cc)
free_leaves st (step.Decide x c) legal free = absurd (cc)
free_leaves st (step.HandOut s n) legal free = absurd (cc)

record FirstFree (x : Step) (xs : List Step) : Type 0 where
  free : is_unasked x ≡ true
  rest : own_of xs ≡ []

first_free : (b : Bool) (x : Step) (xs : List Step) → is_unasked x ≡ b → own_of (x ∷ xs) ≡ [] → FirstFree x xs
first_free true x xs is own = record { free = is; rest = rw is at own }
first_free false x xs is own = absurd (cc (rw is at own))

pub free_run_leaves : (st : State) (xs : List Step) → IsRun st xs → own_of xs ≡ [] → LeavesVotes st (state_after st xs)
free_run_leaves st [] run own = leaves_itself st
free_run_leaves st (x ∷ xs) run own =
    let legal : (is_legal st x ≡ true) × (is_run (next st x) xs ≡ true) = and_both (is_legal st x) (is_run (next st x) xs) run in
    let f = first_free (is_unasked x) x xs refl own in
    leaves_both st (next st x) (state_after (next st x) xs) (free_leaves st x legal.0 f.free) (free_run_leaves (next st x) xs legal.1 f.rest)

-- ---- so what comes next is the same

pub all_unasked : (xs : List Step) → own_of xs ≡ [] → list_all is_unasked xs ≡ true
all_unasked [] own = refl
all_unasked (x ∷ xs) own =
    let f = first_free (is_unasked x) x xs refl own in
    and_from (is_unasked x) (list_all is_unasked xs) f.free (all_unasked xs f.rest)

pub still_accepts : (old new : State) (x : Input) → LeavesVotes old new → accepts new x ≡ accepts old x
still_accepts old new (input.Open s) h = ap (λ n. nat_le 1 s && nat_lt n s && nat_le s LAST_SESSION) h.last_session
still_accepts old new (input.Clock t) h = refl
still_accepts old new (input.Ask s asked) h = ap (λ w. list_any (λ q. q.number == s) w) h.sessions
still_accepts old new (input.Fault s id refusal) h = ap (λ w. list_any (λ q. q.number == s) w) h.sessions

pub same_turn : (old new : State) → LeavesVotes old new → settle_step new ≡ settle_step old
same_turn old new h = at old.commits refl
  where
    at : (cs : List Commit) → old.commits ≡ cs → settle_step new ≡ settle_step old
    at [] is = let w : new.commits ≡ [] = h.commits ∙ is in rw (w, is) refl
    at (c ∷ cs) is =
        let w : new.commits ≡ c ∷ cs = h.commits ∙ is in
        let same : (c.transaction == c.transaction) ≡ true = eq-eqb c.transaction c.transaction refl in
        let votes : is_voting old c.transaction ≡ true = rw is (rw same refl) in
        rw (w, is) (ap (λ (js : List Joined). Some (turn_at c.transaction js)) (h.joined c.transaction votes))

-- A commit ends its transaction, and each vote that stands then was cast.
use Rattle.std.proofs.Common.{◌≡◌, refl, sym, ap, ◌∙◌, subst, ℕ, List, [], ◌∷◌, ◌++◌, map, Bool, true, false, cond, ◌⊎◌, inl, inr, ⊎_elim, Option, Some, None, is_some, option_map, ◌==◌, IsTrue, eqb-true, eq-eqb, true≢false}
use Rattle.std.specs.List.{list_all}
use Rattle.jsp_model.specs.declared.state.State.{State}
use Rattle.jsp_model.specs.declared.state.Transaction.{Transaction}
use Rattle.jsp_model.specs.declared.state.Joined.{Joined}
use Rattle.jsp_model.specs.declared.state.Vote.{Vote}
use Rattle.jsp_model.specs.declared.step.Step.{Step}
use Rattle.jsp_model.specs.declared.step.Step.TheVariants as step
use Rattle.jsp_model.specs.Lookup.{empty, joined_of, joined_at, crash_count, is_voting}
use Rattle.jsp_model.specs.Changes.{vote_of, owe, forget, committed, published, commit}
use Rattle.jsp_model.specs.Steps.{next, is_vote_to_commit}
use Rattle.jsp_model.specs.Runs.{IsRun}
use Rattle.jsp_model.specs.Laws.{votes, commits as commits_test}
use Rattle.jsp_laws.specs.Commits.{CommitEnds, after_vote, LeftBy, VotesStand}
use Rattle.jsp_laws.proofs.Lists.{Has, each_has, each_by_all, fold_keeps}
use Rattle.jsp_laws.proofs.Living.{lives}
use Rattle.jsp_laws.proofs.Change.{Kind, Changes, none, then_}
use Rattle.jsp_laws.proofs.Sound.{without, sound_empty}
use Rattle.jsp_laws.proofs.Made.{kind_of, step_changes}
use Rattle.jsp_laws.proofs.Walk.{Legal, some_is, at_legal, trace}
use Rattle.jsp_laws.proofs.Joins.{joins, JoinedStep, same, grew, cast, ended, joined_change, dead_this}
use Rattle.jsp_laws.proofs.Votes.{Apart, apart_pushed, apart_update, none_found, only_found, commit_crash, decided, contains_has, voting_lives, cast_as}

-- ---- a commit

pub committed_transactions : (st : State) (x : ℕ) → (commit st x).transactions ≡ without x st.transactions
committed_transactions st x = fold_keeps (λ (b : State). b.transactions ≡ without x st.transactions) (owe None) (λ b row e. e) (published x st.rows) (record (forget st x) { rows = committed x st.rows }) refl

dead_after : (st : State) (act : Step) (x : ℕ) → commits_test x (record { state = st; step = act }) ≡ true → lives (next st act).transactions x ≡ false
unfolding next
dead_after st (step.Decide y true) x e =
    subst (λ ts. lives ts x ≡ false) (sym (committed_transactions st y)) (subst (λ z. lives (without z st.transactions) x ≡ false) (sym (eqb-true y x e)) (dead_this x st.transactions))
dead_after st (step.Decide y false) x e = absurd (cc)
dead_after st _ x e = absurd (cc)

pub commit_ends : (names : List (List ℕ)) (steps : List Step) → IsRun (empty names) steps → CommitEnds (empty names) steps
commit_ends names steps run i x m a e =
    let l : Legal m = at_legal (empty names) steps run (sound_empty names) i m a in
    let before : lives m.state.transactions x ≡ true = voting_lives m.state x l.sound (decided m.state m.step x l.legal e).0 in
    let after : lives (next m.state m.step).transactions x ≡ false = dead_after m.state m.step x e in
    rw (before, after) refl

-- ---- lists

has_pushed : {A : Type 0} (xs : List A) (y z : A) → Has (xs ++ y ∷ []) z → Has xs z ⊎ (y ≡ z)
has_pushed [] y z (inl e) = inr e
has_pushed [] y z (inr h) = absurd h
has_pushed (x ∷ xs) y z (inl e) = inl (inl e)
has_pushed (x ∷ xs) y z (inr h) = ⊎_elim (λ k. inl (inr k)) (λ e. inr e) (has_pushed xs y z h)

has_unmapped : {A : Type 0} (f : A → A) (xs : List A) (y : A) → Has (map f xs) y → (x : A) × Has xs x × (f x ≡ y)
has_unmapped f [] y h = absurd h
has_unmapped f (x ∷ xs) y (inl e) = (x, inl refl, e)
has_unmapped f (x ∷ xs) y (inr h) = let found = has_unmapped f xs y h in (found.0, inr found.1, found.2)

-- ---- back to the vote

-- the step casts a vote that leaves the joined space like this
pub record Recorded (c : Kind) (x : ℕ) (j : Joined) : Type 0 where
  pub crash : ℕ
  pub vote : c.vote ≡ Some (x, j.space, crash)
  pub recorded : c.recorded ≡ Some j

apart_joined : {c : Kind} {ts us : List Transaction} (x : ℕ) → JoinedStep c x ts us → Apart (joins ts x) → Apart (joins us x)
apart_joined {ts = ts} x (same e) a = subst Apart (sym e) a
apart_joined {ts = ts} x (grew p q e k) a = subst Apart (sym k) (apart_pushed (joins ts x) _ (none_found p (joins ts x) e) a)
apart_joined {ts = ts} x (cast st j e v w z k) a = subst Apart (sym k) (apart_update _ _ (λ i. refl) (joins ts x) a)
apart_joined x (ended d e) a = subst Apart (sym e) tt

joined_back : {c : Kind} {ts us : List Transaction} (x : ℕ) (j : Joined) → is_some j.vote ≡ true → JoinedStep c x ts us → Apart (joins ts x) → Has (joins us x) j → Has (joins ts x) j ⊎ Recorded c x j
joined_back x j s (same e) a h = inl (subst (λ js. Has js j) e h)
joined_back {ts = ts} x j s (grew p q e k) a h =
    ⊎_elim (λ g. inl g)
    (λ (w : record { space = p; crash_count = q; vote = None } ≡ j). let none : is_some j.vote ≡ false = sym (ap (λ (z : Joined). is_some z.vote) w) in absurd (true≢false (sym s ∙ none)))
    (has_pushed (joins ts x) _ j (subst (λ js. Has js j) k h))
joined_back {c = c} {ts = ts} x j s (cast st i e v w z k) a h =
    let found : (y : Joined) × Has (joins ts x) y × (cond (y.space == i.space) (record y { vote = Some (vote_of st x i) }) y ≡ j) = has_unmapped _ (joins ts x) j (subst (λ js. Has js j) k h) in
    go found.0 found.1 (found.0.space == i.space) refl found.2
  where
    go : (y : Joined) → Has (joins ts x) y → (b : Bool) → (y.space == i.space) ≡ b → cond b (record y { vote = Some (vote_of st x i) }) y ≡ j → Has (joins ts x) j ⊎ Recorded c x j
    go y g true d q =
        let only : y ≡ i = each_has (λ (k : Joined). (k.space == i.space) ≡ true → k ≡ i) (joins ts x) y (only_found i (joins ts x) a e) g d in
        let q' : after_vote st x i ≡ j = subst (λ (k : Joined). record k { vote = Some (vote_of st x i) } ≡ j) only q in
        let space : i.space ≡ j.space = ap (λ (z : Joined). z.space) q' in
        inr (record { crash = crash_count st i.space; vote = w ∙ ap (λ p. cast_as x p (crash_count st i.space)) space; recorded = z ∙ ap Some q' })
    go y g false d q = inl (subst (λ k. Has (joins ts x) k) q g)
joined_back x j s (ended d e) a h = absurd (subst (λ js. Has js j) e h)

apart_changes : {c : Kind} {st st' : State} (x : ℕ) → Changes c st st' → Apart (joins st.transactions x) → Apart (joins st'.transactions x)
apart_changes x none a = a
apart_changes x (then_ k ks) a = apart_changes x ks (apart_joined x (joined_change x k) a)

changes_back : {c : Kind} {st st' : State} (x : ℕ) (j : Joined) → is_some j.vote ≡ true → Changes c st st' → Apart (joins st.transactions x) → Has (joins st'.transactions x) j → Has (joins st.transactions x) j ⊎ Recorded c x j
changes_back x j s none a h = inl h
changes_back x j s (then_ k ks) a h = ⊎_elim (λ g. joined_back x j s (joined_change x k) a g) (λ r. inr r) (changes_back x j s ks (apart_joined x (joined_change x k) a) h)

recorded_is : (st : State) (act : Step) (x : ℕ) (j : Joined) → Recorded (kind_of st act) x j → LeftBy x j (record { state = st; step = act })
recorded_is st (step.Vote y p) x j r =
    let both : (y, p, crash_count st p) ≡ (x, j.space, r.crash) = some_is _ (x, j.space, r.crash) r.vote in
    let a : y ≡ x = ap (λ (z : ℕ × ℕ × ℕ). z.0) both in
    let b : p ≡ j.space = ap (λ (z : ℕ × ℕ × ℕ). z.1) both in
    let here : option_map (after_vote st y) (joined_at st y p) ≡ Some j = r.recorded in
    let there : option_map (after_vote st x) (joined_at st x j.space) ≡ Some j
    = subst (λ q. option_map (after_vote st x) (joined_at st x q) ≡ Some j) b (subst (λ z. option_map (after_vote st z) (joined_at st z p) ≡ Some j) a here) in
    go (rw (eq-eqb y x a, eq-eqb p j.space b) refl) (joined_at st x j.space) refl there
  where
    go : IsTrue (votes x j.space (record { state = st; step = step.Vote y p })) → (o : Option Joined) → joined_at st x j.space ≡ o → option_map (after_vote st x) o ≡ Some j → LeftBy x j (record { state = st; step = step.Vote y p })
    go v None e f = absurd (cc)
    go v (Some i) e f = record { voted = v; before = i; found = e; left = sym (some_is (after_vote st x i) j f) }
recorded_is st _ x j r = let e : None ≡ cast_as x j.space r.crash = r.vote in absurd (cc)

-- ---- the votes at a commit

some_vote : (j : Joined) → is_vote_to_commit j ≡ true → is_some j.vote ≡ true
some_vote j e = go j.vote refl e
  where
    go : (o : Option Vote) → j.vote ≡ o → is_vote_to_commit (record j { vote = o }) ≡ true → is_some o ≡ true
    go None k q = absurd (cc)
    go (Some v) k q = refl

crash_stood : (st : State) (x : ℕ) (i j : Joined) → j ≡ after_vote st x i → is_vote_to_commit j ≡ true → (crash_count st j.space == j.crash_count) ≡ true
crash_stood st x i j e v =
    let w : (i.crash_count == crash_count st i.space) ≡ true = commit_crash st x i (subst (λ k. is_vote_to_commit k ≡ true) e v) in
    subst (λ (k : Joined). (crash_count st k.space == k.crash_count) ≡ true) (sym e) (eq-eqb (crash_count st i.space) i.crash_count (sym (eqb-true i.crash_count (crash_count st i.space) w)))

pub votes_stand : (names : List (List ℕ)) (steps : List Step) → IsRun (empty names) steps → VotesStand (empty names) steps
votes_stand names steps run i x m j a e h =
    let l : Legal m = at_legal (empty names) steps run (sound_empty names) i m a in
    let d : (is_voting m.state x ≡ true) × (list_all is_vote_to_commit (joined_of m.state x) ≡ true) = decided m.state m.step x l.legal e in
    let has : Has (joins m.state.transactions x) j = contains_has (joined_of m.state x) j h in
    let to_commit : is_vote_to_commit j ≡ true = each_has (λ j. is_vote_to_commit j ≡ true) (joined_of m.state x) j (each_by_all is_vote_to_commit (joined_of m.state x) d.1) has in
    ⊎_elim (λ g. absurd g)
    (λ q. let (k, v, f, b, r) = q in (k, v, f, b, r, crash_stood v.state x r.before j r.left to_commit))
    (trace (λ st. Apart (joins st.transactions x)) (λ st. Has (joins st.transactions x) j) (LeftBy x j)
    (λ w k p. apart_changes x (step_changes w.state w.step k.legal k.sound) p)
    (λ w k p g. ⊎_elim (λ z. inl z) (λ r. inr (recorded_is w.state w.step x j r)) (changes_back x j (some_vote j to_commit) (step_changes w.state w.step k.legal k.sound) p g))
    (empty names) steps run (sound_empty names) tt i m a has)

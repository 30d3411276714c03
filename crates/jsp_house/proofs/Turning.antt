-- The step of a settle turn may come, and what is answered once it is made.
use Rattle.std.proofs.Common.{◌≡◌, refl, ap, sym, ◌∙◌, subst, ℕ, List, [], ◌∷◌, map, length, Bool, true, false, not, ◌&&◌, inl, inr, Option, Some, None, Ok, Err, is_some, is_none, ◌==◌, true≢false}
use Rattle.std.specs.Prelude.{find, if◌then◌else◌, option_to_list}
use Rattle.std.specs.List.{list_any, list_all}
use Rattle.std.specs.Option.{option_map_or}
use Rattle.std.proofs.lemmas.Bool.{and_parts, and_from, or_parts, or_right, eqb-true, eq-eqb, not-true}
use Rattle.jsp_model.specs.declared.state.State.{State}
use Rattle.jsp_model.specs.declared.state.Commit.{Commit}
use Rattle.jsp_model.specs.declared.state.Transaction.{Transaction}
use Rattle.jsp_model.specs.declared.state.Joined.{Joined}
use Rattle.jsp_model.specs.declared.state.Vote.{Vote}
use Rattle.jsp_model.specs.declared.step.Step.{Step}
use Rattle.jsp_model.specs.declared.step.Step.TheVariants as step
use Rattle.jsp_model.specs.declared.house.Stopped.{Stopped}
use Rattle.jsp_model.specs.Lookup.{contains, is_voting, transaction_of, joined_of}
use Rattle.jsp_model.specs.Limits.{IsWithinLimits, is_transaction, are_apart}
use Rattle.jsp_model.specs.Steps.{is_aborted, is_vote_to_abort, is_vote_to_commit}
use Rattle.jsp_model.specs.Settling.{turn_of, settle_step}
use Rattle.jsp_model.specs.House.{Settles, bare}
use Rattle.jsp_laws.proofs.Lists.{Has, each_has, each_by_all, found_has}
use Rattle.jsp_house.specs.Making.{Performs, may_come}
use Rattle.jsp_model.specs.House.{answer_to}
use Rattle.jsp_quiet.proofs.Lists.{all_has, find_none}
use Rattle.jsp_quiet.proofs.Turns.{settle_answers, turn_by}

-- ---- lists

any_false : {A : Type 0} (t : A → Bool) (xs : List A) (y : A) → list_any t xs ≡ false → Has xs y → t y ≡ false
any_false t [] y e h = absurd h
any_false t (x ∷ xs) y e (inl s) = ap t (sym s) ∙ (or_parts (t x) (list_any t xs) e).0
any_false t (x ∷ xs) y e (inr h) = any_false t xs y (or_parts (t x) (list_any t xs) e).1 h

space_contained : (js : List Joined) (j : Joined) → Has js j → contains (map (λ k. k.space) js) j.space ≡ true
space_contained [] j h = absurd h
space_contained (k ∷ js) j (inl e) = let w : (k.space == j.space) ≡ true = eq-eqb k.space j.space (ap (λ (q : Joined). q.space) e) in rw w refl
space_contained (k ∷ js) j (inr h) = or_right (k.space == j.space) (contains (map (λ q. q.space) js) j.space) (space_contained js j h)

-- where each space joined once, looking up a space finds what joined there
found_apart : (js : List Joined) (j : Joined) → are_apart (map (λ k. k.space) js) ≡ true → Has js j → find (λ k. k.space == j.space) js ≡ Some j
found_apart [] j a h = absurd h
found_apart (k ∷ js) j a (inl e) = let w : (k.space == j.space) ≡ true = eq-eqb k.space j.space (ap (λ (q : Joined). q.space) e) in rw w (ap (λ (q : Joined). Some q) e)
found_apart (k ∷ js) j a (inr h) = go (k.space == j.space) refl (found_apart js j parts.1 h)
  where
    parts : (not (contains (map (λ q. q.space) js) k.space) ≡ true) × (are_apart (map (λ q. q.space) js) ≡ true)
    parts = and_parts (not (contains (map (λ q. q.space) js) k.space)) (are_apart (map (λ q. q.space) js)) a

    go : (b : Bool) → (k.space == j.space) ≡ b → find (λ q. q.space == j.space) js ≡ Some j → find (λ q. q.space == j.space) (k ∷ js) ≡ Some j
    go true e ih =
        let there : contains (map (λ q. q.space) js) k.space ≡ true = subst (λ n. contains (map (λ q. q.space) js) n ≡ true) (sym (eqb-true k.space j.space e)) (space_contained js j h) in
        absurd (true≢false (sym there ∙ not-true (contains (map (λ q. q.space) js) k.space) parts.0))
    go false e ih = rw e ih

-- where nothing is for an abort and each has voted, each is for a commit
voted_to_commit : (js : List Joined) → list_any is_vote_to_abort js ≡ false → find (λ j. is_none j.vote) js ≡ None → list_all is_vote_to_commit js ≡ true
voted_to_commit js none all = all_has is_vote_to_commit js (λ j h. at j.vote (any_false is_vote_to_abort js j none h) (find_none (λ (k : Joined). is_none k.vote) js j all h))
  where
    at : (o : Option Vote) → is_aborted o ≡ false → is_none o ≡ false → (is_some o && not (is_aborted o)) ≡ true
    at None e q = absurd (cc)
    at (Some v) e q = rw e refl

-- ---- the step may come

apart_joined : (st : State) (x : ℕ) → IsWithinLimits st → are_apart (map (λ j. j.space) (joined_of st x)) ≡ true
apart_joined st x h = go (transaction_of st x) refl
  where
    go : (o : Option Transaction) → transaction_of st x ≡ o → are_apart (map (λ j. j.space) (option_map_or (λ t. t.joined) o [])) ≡ true
    go None e = refl
    go (Some t) e =
        (and_parts _ _ (each_has (λ (t : Transaction). is_transaction (length st.spaces) t ≡ true) st.transactions t (each_by_all (is_transaction (length st.spaces)) st.transactions h.transactions.each)
        (found_has (λ (t : Transaction). t.number == x) st.transactions t e).0)).1

turn_comes : (st : State) (x : ℕ) → is_voting st x ≡ true → are_apart (map (λ j. j.space) (joined_of st x)) ≡ true → may_come st (turn_of st x) ≡ true
turn_comes st x votes apart = go (list_any is_vote_to_abort js) refl (find unvoted js) refl
  where
    js : List Joined
    js = joined_of st x

    unvoted : Joined → Bool
    unvoted j = is_none j.vote

    go : (b : Bool) → list_any is_vote_to_abort js ≡ b → (o : Option Joined) → find unvoted js ≡ o → may_come st (if b then step.Decide x false else option_map_or (λ j. step.Vote x j.space) o (step.Decide x true)) ≡ true
    go true e o q = and_from (is_voting st x) (list_any is_vote_to_abort js) votes e
    go false e None q = and_from (is_voting st x) (list_all is_vote_to_commit js) votes (voted_to_commit js e q)
    go false e (Some j) q =
        let k = found_has unvoted js j q in
        and_from (is_voting st x) (option_map_or (λ i. is_none i.vote) (find (λ i. i.space == j.space) js) false) votes
        (ap (λ o. option_map_or (λ i. is_none i.vote) o false) (found_apart js j apart k.0) ∙ k.1)

pub settle_comes : (st : State) (s : Step) → IsWithinLimits st → settle_step st ≡ Some s → may_come st s ≡ true
settle_comes st s h e = go st.commits refl e
  where
    go : (cs : List Commit) → st.commits ≡ cs → settle_step st ≡ Some s → may_come st s ≡ true
    go [] q k = absurd (cc (rw q at k))
    go (c ∷ cs) q k =
        let same : c.transaction == c.transaction ≡ true = eq-eqb c.transaction c.transaction refl in
        let votes : is_voting st c.transaction ≡ true = rw q (rw same refl) in
        let some : Some (turn_of st c.transaction) ≡ Some s = rw q at k in
        let is : turn_of st c.transaction ≡ s = cc (some) in
        subst (λ (w : Step). may_come st w ≡ true) is (turn_comes st c.transaction votes (apart_joined st c.transaction h))

-- ---- it is a vote or a decision

pub settle_bare : (st : State) (s : Step) → settle_step st ≡ Some s → bare s ≡ s
settle_bare st s e = turn_by (λ w. bare w ≡ w) st s (λ x space. refl) (λ x c. refl) e

-- ---- so the turn is settled

own_turn : (old : State) (s : Step) (b : Bool) → settle_step old ≡ Some s → (if b then bare s ∷ [] else []) ≡ (if b then option_to_list (settle_step old) else [])
own_turn old s true e = rw e (ap (λ (w : Step). w ∷ []) (settle_bare old s e))
own_turn old s false e = refl

pub turned : (old new : State) (owed left : List ℕ) (before after : List Step) (s : Step) → settle_step old ≡ Some s → Performs old new owed left before after s (Ok tt) → Settles old new owed left before after (Ok (answer_to s))
turned old new owed left before after s e p = record { steps = p.steps; makes = p.makes; own = p.own ∙ own_turn old s true e; leaves = p.leaves; turn = p.turn; once = p.once; answers = settle_answers old new s e }

pub turn_stopped : (old new : State) (owed left : List ℕ) (before after : List Step) (s : Step) (e : Stopped) → settle_step old ≡ Some s → Performs old new owed left before after s (Err e) → Settles old new owed left before after (Err e)
turn_stopped old new owed left before after s e is p = record { steps = p.steps; makes = p.makes; own = p.own ∙ own_turn old s e.done is; leaves = p.leaves; turn = p.turn; once = p.once; answers = λ full none. absurd (cc (rw is at none)) }

-- Steps that come in their turn, one after another, and what is owed once.
use Rattle.std.proofs.Common.{◌≡◌, refl, sym, ◌∙◌, subst, ℕ, Bool, true, false, true≢false, not, ◌==◌, List, [], ◌∷◌, ◌++◌, inl, inr}
use Rattle.std.proofs.lemmas.Bool.{and_parts, and_from, or_parts, or_right, eq-eqb, eqb-true, not-true}
use Rattle.jsp_model.specs.declared.state.State.{State}
use Rattle.jsp_model.specs.declared.step.Step.{Step}
use Rattle.jsp_model.specs.declared.step.Step.TheVariants as step
use Rattle.jsp_model.specs.Limits.{are_apart}
use Rattle.jsp_model.specs.Lookup.{contains}
use Rattle.jsp_model.specs.Quiet.{is_quiet}
use Rattle.jsp_model.specs.Touches.{touches}
use Rattle.jsp_model.specs.Steps.{next}
use Rattle.jsp_model.specs.Runs.{state_after}
use Rattle.jsp_model.specs.House.{Covers, OwesOnce, is_unasked, touched, comes_in_turn, come_in_turn}
use Rattle.jsp_laws.proofs.Lists.{Has}
use Rattle.jsp_quiet.proofs.Covering.{all_both, all_parts, covered, covers_more}
use Rattle.jsp_quiet.proofs.Lists.{all_has}

-- ---- what is owed

pub covers_itself : (owed : List ℕ) → Covers owed owed
covers_itself owed = all_has (contains owed) owed (λ p k. has owed p k)
  where
    has : (ns : List ℕ) (n : ℕ) → Has ns n → contains ns n ≡ true
    has [] n h = absurd h
    has (m ∷ ns) n (inl e) = let w : (m == n) ≡ true = eq-eqb m n e in rw w refl
    has (m ∷ ns) n (inr h) = or_right (m == n) (contains ns n) (has ns n h)

covers_both : (ps many few : List ℕ) → Covers many few → Covers (ps ++ many) (ps ++ few)
covers_both ps many few c =
    let all = all_parts (contains (ps ++ many)) ps many (covers_itself (ps ++ many)) in
    all_both (contains (ps ++ many)) ps few all.0 (covers_more many (ps ++ many) few all.1 c)

-- ---- where less is owed, a step comes in its turn as well

one_less : (x : Step) (st : State) (many few : List ℕ) → Covers many few → comes_in_turn st many x ≡ true → comes_in_turn st few x ≡ true
one_less (step.Due item) st many few c h = covered (is_quiet st) many few c h
one_less (step.Tell n) st many few c h = h
one_less (step.Open s) st many few c h = refl
one_less (step.Shut s) st many few c h = refl
one_less (step.Clock t) st many few c h = refl
one_less (step.Ask s a ns) st many few c h = refl
one_less (step.Fault s id r) st many few c h = refl
one_less (step.Vote x space) st many few c h = refl
one_less (step.Decide x b) st many few c h = refl
one_less (step.HandOut s n) st many few c h = refl
one_less (step.Grant n ns) st many few c h = refl
one_less (step.Empty n) st many few c h = refl

pub turn_less : (steps : List Step) (st : State) (many few : List ℕ) → Covers many few → come_in_turn st many steps ≡ true → come_in_turn st few steps ≡ true
turn_less [] st many few c h = refl
turn_less (x ∷ steps) st many few c h =
    let parts = and_parts (comes_in_turn st many x) (come_in_turn (next st x) (touches st x ++ many) steps) h in
    and_from (comes_in_turn st few x) (come_in_turn (next st x) (touches st x ++ few) steps) (one_less x st many few c parts.0)
    (turn_less steps (next st x) (touches st x ++ many) (touches st x ++ few) (covers_both (touches st x) many few c) parts.1)

-- ---- steps after others

pub turn_more : (steps more : List Step) (st : State) (owed left : List ℕ) → Covers left (touched st steps ++ owed) → come_in_turn st owed steps ≡ true → come_in_turn (state_after st steps) left more ≡ true
    → come_in_turn st owed (steps ++ more) ≡ true
turn_more [] more st owed left c h k = turn_less more st left owed c k
turn_more (x ∷ steps) more st owed left c h k =
    let parts = and_parts (comes_in_turn st owed x) (come_in_turn (next st x) (touches st x ++ owed) steps) h in
    let all = all_parts (contains left) (touches st x ++ touched (next st x) steps) owed c in
    let both = all_parts (contains left) (touches st x) (touched (next st x) steps) all.0 in
    let rest : Covers left (touched (next st x) steps ++ (touches st x ++ owed)) = all_both (contains left) (touched (next st x) steps) (touches st x ++ owed) both.1 (all_both (contains left) (touches st x) owed both.0 all.1) in
    and_from (comes_in_turn st owed x) (come_in_turn (next st x) (touches st x ++ owed) (steps ++ more)) parts.0 (turn_more steps more (next st x) (touches st x ++ owed) left rest parts.1 k)

pub turn_after : (steps more : List Step) (st mid : State) (owed left : List ℕ) → Covers left (touched st steps ++ owed) → come_in_turn st owed steps ≡ true → state_after st steps ≡ mid → come_in_turn mid left more ≡ true
    → come_in_turn st owed (steps ++ more) ≡ true
turn_after steps more st mid owed left c h view k = turn_more steps more st owed left c h (subst (λ (w : State). come_in_turn w left more ≡ true) (sym view) k)

pub turn_one : (x : Step) (st : State) (owed : List ℕ) → comes_in_turn st owed x ≡ true → come_in_turn st owed (x ∷ []) ≡ true
turn_one x st owed h = and_from (comes_in_turn st owed x) true h refl

-- ---- what was asked for comes in its turn at any time

pub asked_turn : (x : Step) (st : State) (owed : List ℕ) → is_unasked x ≡ false → comes_in_turn st owed x ≡ true
asked_turn (step.Due item) st owed h = absurd (cc)
asked_turn (step.Tell n) st owed h = absurd (cc)
asked_turn (step.Grant n ns) st owed h = refl
asked_turn (step.Empty n) st owed h = refl
asked_turn (step.Open s) st owed h = refl
asked_turn (step.Shut s) st owed h = refl
asked_turn (step.Clock t) st owed h = refl
asked_turn (step.Ask s a ns) st owed h = refl
asked_turn (step.Fault s id r) st owed h = refl
asked_turn (step.Vote x space) st owed h = refl
asked_turn (step.Decide x b) st owed h = refl
asked_turn (step.HandOut s n) st owed h = refl

-- ---- one more is owed

other_way : (n p : ℕ) → (n == p) ≡ false → (p == n) ≡ false
other_way n p e = at (p == n) refl
  where
    at : (b : Bool) → (p == n) ≡ b → (p == n) ≡ false
    at false k = k
    at true k = absurd (true≢false (sym (eq-eqb n p (sym (eqb-true p n k))) ∙ e))

not_pushed : (ms : List ℕ) (p n : ℕ) → contains ms n ≡ false → (p == n) ≡ false → contains (ms ++ p ∷ []) n ≡ false
not_pushed [] p n f d = rw d refl
not_pushed (m ∷ ms) p n f d = let two = or_parts (m == n) (contains ms n) f in rw (two.0, not_pushed ms p n two.1 d) refl

apart_pushed : (ns : List ℕ) (p : ℕ) → contains ns p ≡ false → are_apart ns ≡ true → are_apart (ns ++ p ∷ []) ≡ true
apart_pushed [] p none h = refl
apart_pushed (n ∷ ns) p none h =
    let two = or_parts (n == p) (contains ns p) none in
    let parts = and_parts (not (contains ns n)) (are_apart ns) h in
    and_from (not (contains (ns ++ p ∷ []) n)) (are_apart (ns ++ p ∷ []))
    (rw (not_pushed ns p n (not-true (contains ns n) parts.0) (other_way n p two.0)) refl)
    (apart_pushed ns p two.1 parts.1)

pub owes_once : (owed : List ℕ) (p : ℕ) → contains owed p ≡ false → OwesOnce owed (owed ++ p ∷ [])
owes_once owed p none = λ h. apart_pushed owed p none h

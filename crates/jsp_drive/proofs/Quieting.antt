-- What calls leave quiet, one after another.
use Rattle.std.proofs.Common.{◌≡◌, ℕ, true, not, List, [], ◌∷◌, ◌++◌, refl, ap, sym, ◌∙◌, subst, append_assoc}
use Rattle.std.specs.List.{list_all}
use Rattle.std.proofs.lemmas.Bool.{and_parts, and_from}
use Rattle.std.proofs.lemmas.List.Folds.{list_all-append}
use Rattle.jsp_model.specs.declared.state.State.{State}
use Rattle.jsp_model.specs.declared.state.Outbox.{Outbox}
use Rattle.jsp_model.specs.declared.step.Step.{Step}
use Rattle.jsp_model.specs.declared.house.Input.{Input}
use Rattle.jsp_model.specs.Quiet.{is_quiet, are_quiet}
use Rattle.jsp_model.specs.Touches.{touches}
use Rattle.jsp_model.specs.Steps.{next}
use Rattle.jsp_model.specs.Runs.{IsRun, state_after}
use Rattle.jsp_model.specs.House.{Makes, own_of, touched, step_of}
use Rattle.jsp_quiet.specs.Steady.{IsSteady}
use Rattle.jsp_quiet.specs.Quieting.{decides}
use Rattle.jsp_quiet.proofs.Steady.{steady_run}
use Rattle.jsp_quiet.proofs.Runs.{quiet_act}
use Rattle.jsp_quiet.proofs.Driving.{undecided, asked_undecided}

pub touched-append : (st : State) (xs ys : List Step) → touched st (xs ++ ys) ≡ touched st xs ++ touched (state_after st xs) ys
touched-append st [] ys = refl
touched-append st (x ∷ xs) ys =
    ap (λ w. touches st x ++ w) (touched-append (next st x) xs ys)
    ∙ sym (append_assoc (touches st x) (touched (next st x) xs) (touched (state_after (next st x) xs) ys))

-- to hand out matters to no space
pub quiet_outboxes : (st : State) (boxes : List Outbox) (p : ℕ) → is_quiet (record st { outboxes = boxes }) p ≡ is_quiet st p
unfolding is_quiet
quiet_outboxes st boxes p = refl

pub are_quiet_outboxes : (st : State) (boxes : List Outbox) (ps : List ℕ) → are_quiet (record st { outboxes = boxes }) ps ≡ are_quiet st ps
are_quiet_outboxes st boxes [] = refl
are_quiet_outboxes st boxes (p ∷ ps) = rw (quiet_outboxes st boxes p, are_quiet_outboxes st boxes ps) refl

-- of the spaces that a call leaves quiet these are some
pub quiet_first : (st : State) (ps qs : List ℕ) → are_quiet st (ps ++ qs) ≡ true → are_quiet st ps ≡ true
quiet_first st ps qs h = (and_parts (are_quiet st ps) (are_quiet st qs) (sym (list_all-append (is_quiet st) ps qs) ∙ h)).0

-- ---- one call after another

-- no own step of an input decides
one_undecided : (x : Input) → list_all (λ s. not (decides s)) (step_of x ∷ []) ≡ true
one_undecided x = rw (asked_undecided x) refl

pub acts_undecided : (x : Input) (steps : List Step) → own_of steps ≡ step_of x ∷ [] → list_all (λ s. not (decides s)) steps ≡ true
acts_undecided x steps own = undecided steps (ap (list_all (λ s. not (decides s))) own ∙ one_undecided x)

stay_quiet : (st : State) (steps : List Step) (ps : List ℕ) → IsSteady st → IsRun st steps → list_all (λ s. not (decides s)) steps ≡ true
    → are_quiet (state_after st steps) (touched st steps) ≡ true → are_quiet st ps ≡ true → are_quiet (state_after st steps) ps ≡ true
stay_quiet st steps [] h run none all q = refl
stay_quiet st steps (p ∷ ps) h run none all q =
    let parts = and_parts (is_quiet st p) (are_quiet st ps) q in
    and_from (is_quiet (state_after st steps) p) (are_quiet (state_after st steps) ps)
    (quiet_act st steps p h run none all parts.0)
    (stay_quiet st steps ps h run none all parts.1)

-- What both touched is quiet after the second, which decides nothing.
pub quiet_then : (a b c : State) (l m n xs ys : List Step) → IsSteady a → Makes a b l m xs → Makes b c m n ys → list_all (λ s. not (decides s)) ys ≡ true
    → are_quiet b (touched a xs) ≡ true → are_quiet c (touched b ys) ≡ true → are_quiet c (touched a (xs ++ ys)) ≡ true
quiet_then a b c l m n xs ys h p q none first second =
    let steady : IsSteady b = subst IsSteady p.view (steady_run a xs p.run h) in
    let at_end : are_quiet (state_after b ys) (touched b ys) ≡ true = ap (λ (w : State). are_quiet w (touched b ys)) q.view ∙ second in
    let kept : are_quiet c (touched a xs) ≡ true = ap (λ (w : State). are_quiet w (touched a xs)) (sym q.view) ∙ stay_quiet b ys (touched a xs) steady q.run none at_end first in
    ap (are_quiet c) (touched-append a xs ys)
    ∙ ap (λ (w : State). are_quiet c (touched a xs ++ touched w ys)) p.view
    ∙ list_all-append (is_quiet c) (touched a xs) (touched b ys)
    ∙ and_from (are_quiet c (touched a xs)) (are_quiet c (touched b ys)) kept second

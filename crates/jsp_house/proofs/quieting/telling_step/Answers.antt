use Rattle.std.proofs.Common.{◌≡◌, ◌==◌, ◌||◌, not, length, subst, true}
use Rattle.std.specs.List.{list_all}
use Rattle.jsp_model.specs.declared.state.State.{State}
use Rattle.jsp_house.proofs.QuietingSteps.{nobody_left, owed_unquiet, owes_number, tells_number, tells_number_in_turn}
use Rattle.jsp_house.proofs.quieting.telling_step.Goals as goal

pub returns-in-None-clause-none : goal.returns-in-None-clause-none
returns-in-None-clause-none c =
    let owes = λ (st : State). list_all (λ r. not (r.space == c.args.space) || length r.owed == 0) st.registrations ≡ true in
    nobody_left c.args.image.now c.args.space c.requires (subst owes c.state-state.ensures.state c.in-None.ensures.none)

pub returns-in-Some-clause-legal : goal.returns-in-Some-clause-legal
returns-in-Some-clause-legal c =
    let n = c.in-Some.registration in
    tells_number c.args.image.now c.args.space n c.state-state.ensures.limits (subst (λ (st : State). owes_number st c.args.space n ≡ true) c.state-state.ensures.state c.in-Some.ensures.some)

pub returns-in-Some-clause-turn : goal.returns-in-Some-clause-turn
returns-in-Some-clause-turn c = λ owed.
    let n = c.in-Some.registration in
    tells_number_in_turn c.args.image.now c.args.space n owed c.state-state.ensures.limits c.requires (subst (λ (st : State). owes_number st c.args.space n ≡ true) c.state-state.ensures.state c.in-Some.ensures.some)

pub returns-in-Some-clause-some : goal.returns-in-Some-clause-some
returns-in-Some-clause-some c =
    let n = c.in-Some.registration in
    owed_unquiet c.args.image.now c.args.space n (subst (λ (st : State). owes_number st c.args.space n ≡ true) c.state-state.ensures.state c.in-Some.ensures.some)

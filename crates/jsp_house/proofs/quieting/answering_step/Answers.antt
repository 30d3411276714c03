use Rattle.std.proofs.Common.{ap, sym, take, ◌∙◌}
use Rattle.jsp_model.specs.declared.state.State.{State}
use Rattle.jsp_model.specs.Sight.{available}
use Rattle.jsp_house.proofs.QuietingSteps.{grants, says_nothing}
use Rattle.jsp_house.proofs.quieting.answering_step.Goals as goal

pub returns-in_ok-rows-in-Some-clause-legal : goal.returns-in_ok-rows-in-Some-clause-legal
returns-in_ok-rows-in-Some-clause-legal c =
    grants c.args.image.now c.args.space c.in-Some.blocked.now c.in_ok-rows-in-Some.rows c.state-state.ensures.limits (sym c.in-Some.ensures)
    (c.in_ok-rows-in-Some.ensures ∙ ap (λ (st : State). take c.in-Some.blocked.now.most (available st c.in-Some.blocked.now)) c.state-state.ensures.state)

pub returns-in-None-clause-legal : goal.returns-in-None-clause-legal
returns-in-None-clause-legal c =
    says_nothing c.args.image.now c.args.space c.args.waiting.now c.state-state.ensures.limits (sym c.in-None.ensures) c.requires

use Rattle.std.proofs.Common.{◌∙◌, List, take, subst}
use Rattle.std.proofs.lemmas.List.{length-replicate, take_all}
use Rattle.jsp_model.specs.declared.step.Step.{Step}
use Rattle.jsp_closing.specs.Leaving.{TellShut}
use Rattle.jsp_closing.proofs.Places.{take_next}
use Rattle.jsp_closing.proofs.Left.{tell_none, tell_shut, tell_other}
use Rattle.jsp_closing.proofs.leaving.shut_sessions.Goals as goal
use Rattle.jsp_closing.proofs.leaving.shut_sessions.Goals.{in-Shut, in_default}

pub loop-step-init : goal.loop-step-init
loop-step-init c = rw c.in_ok-flags.ensures (length-replicate c.args.count _, tell_none c.args.count)

pub loop-step-preserved : goal.loop-step-preserved
loop-step-preserved c =
    let h = c.loop-step.invariant in
    let before = take c.loop-step.step-index c.args.steps.now in
    let more = take_next c.args.steps.now c.loop-step.step-index c.step-item.result c.loop-step-test.true c.step-item.is in
    elim c.match-step.branch [
      | in-Shut w ↦ rw (w.flags-is, more, w.in-Shut.is) (w.mark.ensures.count ∙ h.0, tell_shut c.loop-step.flags.items _ before w.in-Shut.session w.mark.ensures h.1)
      | in_default w ↦ rw (w.flags-is, more) (h.0, tell_other c.loop-step.flags.items before c.step-item.result w.in_default.not-Shut h.1)
    ]

pub returns-clause-tell : goal.returns-clause-tell
returns-clause-tell c =
    subst (λ (xs : List Step). TellShut c.loop-step.flags.items xs) (take_all c.loop-step.step-index c.args.steps.now c.loop-step-test.false) c.loop-step.invariant.1

use Rattle.std.proofs.Common.{◌≡◌, ◌+◌, List, length, filter, subst, arith, eqb-true}
use Rattle.std.proofs.lemmas.List.{take_all}
use Rattle.jsp_model.specs.declared.step.Step.{Step}
use Rattle.jsp_closing.specs.Closing.{opens}
use Rattle.jsp_closing.proofs.Ending.{opened_first, opened_more}
use Rattle.jsp_closing.proofs.closing.are_opened.Goals as goal
use Rattle.jsp_closing.proofs.closing.are_opened.Goals.{then-is_opening+else-left-eq0, else-is_opening}

pub loop-step-preserved : goal.loop-step-preserved
loop-step-preserved c =
    let h = c.loop-step.invariant in
    let more = opened_more c.args.steps.now c.loop-step.step-index c.step-item.result c.is_opening.result c.loop-step-test.true c.step-item.is c.is_opening.ensures in
    elim c.if-is_opening.branch [
      | then-is_opening+else-left-eq0 w ↦ omega (arith, h, rw w.if-is_opening.true at more, w.left-is, w.if-left-eq0.false)
      | else-is_opening w ↦ omega (arith, h, rw w.if-is_opening.false at more, w.left-is)
    ]

pub returns-clause-so : goal.returns-clause-so
returns-clause-so c = λ none.
    let all = subst (λ (xs : List Step). c.loop-step.left + length (filter opens xs) ≡ c.args.count) (take_all c.loop-step.step-index c.args.steps.now c.loop-step-test.false) c.loop-step.invariant in
    omega (arith, all, eqb-true c.loop-step.left 0 none)

pub returns-then-left-eq0-clause-not_so : goal.returns-then-left-eq0-clause-not_so
returns-then-left-eq0-clause-not_so c = λ same all.
    let steps = c.args.steps.now in
    let i = c.loop-step.step-index in
    let h = c.loop-step.invariant in
    let more = opened_more steps i c.step-item.result c.is_opening.result c.loop-step-test.true c.step-item.is c.is_opening.ensures in
    let within = opened_first steps (i + 1) in
    absurd (omega (arith, h, rw c.if-is_opening.true at more, within, all, c.if-left-eq0.true))

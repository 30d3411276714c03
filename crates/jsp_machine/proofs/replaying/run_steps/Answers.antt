use Rattle.std.proofs.Common.{rules}
use Rattle.jsp_machine.proofs.RunSoFar.{replaying_more, replaying_fails}
use Rattle.jsp_machine.proofs.replaying.run_steps.Goals as goal

pub loop-place-preserved : goal.loop-place-preserved
loop-place-preserved c =
    replaying_more c.args.image.now c.loop-place.image c.make_step.new.image c.args.steps.now c.loop-place.place c.index-steps-place.result c.loop-place.told.items c.make_step.new.told.items c.loop-place-test.true c.index-steps-place.is c.loop-place.invariant
    c.in_ok-check_step.ensures.ok
    c.in_ok-make_step.ensures.told
    c.in_ok-make_step.ensures.made

pub returns-in_err-check_step-clause-illegal : goal.returns-in_err-check_step-clause-illegal
returns-in_err-check_step-clause-illegal c =
    let fails = replaying_fails c.args.image.now c.loop-place.image c.args.steps.now c.loop-place.place c.index-steps-place.result c.loop-place.told.items c.in_err-check_step.field-0.0 c.loop-place-test.true c.index-steps-place.is c.loop-place.invariant c.in_err-check_step.ensures.err in
    search (fails, rules)

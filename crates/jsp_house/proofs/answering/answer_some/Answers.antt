use Rattle.std.proofs.Common.{◌∙◌, sym}
use Rattle.jsp_model.specs.declared.step.Step.TheVariants as step
use Rattle.jsp_house.proofs.Logging.{keeps_step}
use Rattle.jsp_house.proofs.answering.answer_some.Goals as goal

pub returns-clause-keeps : goal.returns-clause-keeps
returns-clause-keeps c =
    keeps_step c.args.image.now c.answer_within.new.image (step.HandOut c.args.session c.args.count) c.args.bound _ _ (sym c.in_ok-answer_within.ensures.steps.view) (sym c.is_full.ensures ∙ c.if-is_full.false)
    c.in_ok-answer_within.ensures.len c.in_ok-answer_within.ensures.room

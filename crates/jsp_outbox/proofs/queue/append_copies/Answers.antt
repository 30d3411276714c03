use Rattle.std.proofs.Common.{◌∙◌, ap, ◌++◌, ◌∷◌, []}
use Rattle.jsp_outbox.proofs.Parts.{copied_more}
use Rattle.jsp_outbox.proofs.queue.append_copies.Goals as goal

pub loop-said-preserved : goal.loop-said-preserved
loop-said-preserved c =
    copied_more c.args.copies.now c.args.answers.now c.loop-said.copies c.push.new.self c.loop-said.said-index c.said-item.result c.loop-said-test.true c.said-item.is c.loop-said.invariant
    (c.in_ok-push.ensures.ok ∙ ap (λ w. c.loop-said.copies ++ w ∷ []) c.in_ok-copy_said.ensures)

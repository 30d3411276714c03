use Rattle.std.proofs.Common.{◌∙◌, ap}
use Rattle.jsp_model.specs.Limits.{are_outboxes}
use Rattle.jsp_outbox.proofs.Keeping.{rising_before}
use Rattle.jsp_outbox.proofs.outboxes.Outboxes.take_back.Goals as goal

pub invariant_of-self : goal.invariant_of-self
invariant_of-self c = ap are_outboxes c.take_back.ensures ∙ rising_before c.self.inside.queues.items c.args.posted c.self.invariant

use Rattle.jsp_outbox.proofs.Keeping.{kept_handed}
use Rattle.jsp_outbox.proofs.outboxes.Outboxes.hand_out.Goals as goal

pub invariant_of-self : goal.invariant_of-self
invariant_of-self c = kept_handed c.hand_out.result c.self.inside.queues.items c.hand_out.new.queues.items c.args.session c.args.count c.self.invariant c.hand_out.ensures.ok c.hand_out.ensures.err

use Rattle.jsp_outbox.proofs.Keeping.{kept_posted}
use Rattle.jsp_outbox.proofs.outboxes.Outboxes.post.Goals as goal

pub invariant_of-self : goal.invariant_of-self
invariant_of-self c = kept_posted c.post.result c.self.inside.queues.items c.post.new.queues.items (c.args.session, c.args.said) _ c.self.invariant c.post.ensures.ok c.post.ensures.err

pub invariant_of-self-2 : goal.invariant_of-self-2
invariant_of-self-2 c = kept_posted c.post.result c.self.inside.queues.items c.post.new.queues.items (c.args.session, c.args.said) _ c.self.invariant c.post.ensures.ok c.post.ensures.err

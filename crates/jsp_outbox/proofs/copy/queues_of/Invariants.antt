use Rattle.std.proofs.Common.{◌≡◌, ◌++◌, length}
use Rattle.std.specs.Vec.Iter.{into_iter_items}
use Rattle.jsp_outbox.proofs.copy.queues_of.Given as goal

abbrev pub invariant-outboxes : goal.invariant-outboxes
invariant-outboxes l = l.queues.items ++ into_iter_items l.rest ≡ into_iter_items l.initial.rest

abbrev pub decreases-outboxes : goal.decreases-outboxes
decreases-outboxes l = length (into_iter_items l.rest)

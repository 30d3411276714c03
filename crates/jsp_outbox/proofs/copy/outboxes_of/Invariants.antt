use Rattle.std.proofs.Common.{◌≡◌, take}
use Rattle.jsp_outbox.proofs.copy.outboxes_of.Given as goal

abbrev pub invariant-loop-queue : goal.invariant-loop-queue
invariant-loop-queue l = l.outboxes ≡ take l.queue-index l.queues

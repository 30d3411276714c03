use Rattle.std.proofs.Common.{◌≡◌, take}
use Rattle.jsp_model.proofs.image.copy_outboxes.Given as goal

abbrev pub invariant-loop-outbox : goal.invariant-loop-outbox
invariant-loop-outbox l = l.copies ≡ take l.outbox-index l.outbox-items

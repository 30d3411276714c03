use Rattle.std.proofs.Common.{◌≡◌, ◌++◌, take}
use Rattle.jsp_outbox.proofs.queue.append_copies.Given as goal

abbrev pub invariant-loop-said : goal.invariant-loop-said
invariant-loop-said l = l.copies ≡ l.initial.copies ++ take l.said-index l.answers

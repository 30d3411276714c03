use Rattle.crossbeam_queue.specs.Passes.{IsPassOf}
use Rattle.jsp_line.proofs.slot.Slot.clear.Given as goal

abbrev pub invariant-loop : goal.invariant-loop
invariant-loop g l = IsPassOf l.self.place l.pass

use Rattle.std.proofs.Common.{take}
use Rattle.jsp_machine.proofs.RunSoFar.{Replaying}
use Rattle.jsp_machine.proofs.replaying.run_steps.Given as goal

abbrev pub invariant-loop-place : goal.invariant-loop-place
invariant-loop-place l = Replaying l.fn.image (take l.place l.steps) l.image l.told.items

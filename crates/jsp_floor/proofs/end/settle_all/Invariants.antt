use Rattle.jsp_floor.specs.Ending.{Settles}
use Rattle.jsp_floor.proofs.end.settle_all.Given as goal

abbrev pub invariant-loop : goal.invariant-loop
invariant-loop g l = Settles l.initial.kept l.kept

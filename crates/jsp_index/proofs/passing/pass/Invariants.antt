use Rattle.jsp_index.specs.Passed.{ArePassed}
use Rattle.jsp_index.proofs.passing.pass.Given as goal

abbrev pub invariant-places : goal.invariant-places
invariant-places l = ArePassed l.seed l.starts l.rows

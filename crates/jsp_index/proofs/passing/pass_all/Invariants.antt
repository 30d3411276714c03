use Rattle.jsp_index.specs.Passed.{ArePassed}
use Rattle.jsp_index.proofs.passing.pass_all.Given as goal

abbrev pub invariant-numbers : goal.invariant-numbers
invariant-numbers l = ArePassed l.seed l.starts l.rows

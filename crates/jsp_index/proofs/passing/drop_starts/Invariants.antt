use Rattle.jsp_index.specs.Passed.{AreLower}
use Rattle.jsp_index.proofs.passing.drop_starts.Given as goal

abbrev pub invariant-places : goal.invariant-places
invariant-places l = AreLower l.fn.starts l.starts

use Rattle.std.proofs.Common.{take}
use Rattle.std.specs.List.{AllByRecursion}
use Rattle.jsp_index.specs.Passed.{AreLower, IsOverAll}
use Rattle.jsp_index.proofs.passing.put_all_above.Given as goal

abbrev pub invariant-rows : goal.invariant-rows
invariant-rows l = record {
  down : AreLower l.fn.starts l.starts;
  above : AllByRecursion (IsOverAll l.seed l.starts) (take l.row-index l.rows);
}

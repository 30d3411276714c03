use Rattle.std.proofs.Common.{◌≤◌, ◌-◌, ◌^◌}
use Rattle.jsp_index.proofs.OwnRows.{AreOver}
use Rattle.jsp_index.proofs.own.first_of_own.Given as goal

abbrev pub invariant-numbers : goal.invariant-numbers
invariant-numbers g l = record {
  up : l.after ≤ l.last;
  over : AreOver (g.P.Test.is_passed l.test) l.own l.after l.rows l.last;
}

abbrev pub decreases-numbers : goal.decreases-numbers
decreases-numbers g l = 2 ^ 64 - l.last

use Rattle.std.proofs.Common.{◌≤◌, ◌-◌, ◌^◌}
use Rattle.jsp_index.proofs.InBoth.{AreBeyond}
use Rattle.jsp_index.proofs.both.first_in_both.Given as goal

abbrev pub invariant-numbers : goal.invariant-numbers
invariant-numbers g l = record {
  up : l.after ≤ l.before;
  beyond : AreBeyond (g.P.Test.is_passed l.test) l.numbers l.own l.after l.rows l.before;
}

abbrev pub decreases-numbers : goal.decreases-numbers
decreases-numbers g l = 2 ^ 64 - l.before

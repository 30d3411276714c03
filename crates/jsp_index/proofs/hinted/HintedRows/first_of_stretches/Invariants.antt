use Rattle.std.proofs.Common.{◌≤◌, ◌<◌, ◌-◌, ◌^◌}
use Rattle.jsp_index.proofs.ByStretches.{AreBeyond}
use Rattle.jsp_index.proofs.hinted.HintedRows.first_of_stretches.Given as goal

abbrev pub invariant-stretches : goal.invariant-stretches
invariant-stretches g l = record {
  up : l.after ≤ l.from;
  long : 0 < l.length;
  beyond : AreBeyond (g.P.Test.is_passed l.test) l.after l.from l.self;
}

abbrev pub decreases-stretches : goal.decreases-stretches
decreases-stretches g l = 2 ^ 64 - l.from

use Rattle.std.proofs.Common.{eqb}
use Rattle.jsp_index.proofs.Spaces.{in_next, one_less}
use Rattle.jsp_index.proofs.counting.uncount_all.Goals as goal

pub rows-preserved : goal.rows-preserved
rows-preserved c k = one_less (eqb k c.row-item.result.space) _ _ _ _ _ (c.count_one_less.ensures k) (c.rows.invariant k) (in_next k c.args.rows.now c.rows.row-index c.row-item.result c.rows-test.true c.row-item.is)

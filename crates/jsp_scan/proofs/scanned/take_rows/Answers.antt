use Rattle.jsp_sight.specs.Rows.{taken_row}
use Rattle.jsp_table.proofs.Places.{one_more}
use Rattle.jsp_scan.proofs.scanned.take_rows.Goals as goal

pub rows-preserved : goal.rows-preserved
rows-preserved c = one_more (taken_row c.args.x c.args.numbers.now) _ _ _ _ _ c.rows-test.true c.rows.invariant c.take_row.ensures

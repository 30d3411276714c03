use Rattle.jsp_table.proofs.Places.{one_more}
use Rattle.jsp_sight.specs.Rows.{row_ending}
use Rattle.jsp_scan.proofs.scanned.extend_rows.Goals as goal

pub rows-preserved : goal.rows-preserved
rows-preserved c = one_more (row_ending c.args.number c.args.end) _ _ _ _ _ c.rows-test.true c.rows.invariant c.extend_row.ensures

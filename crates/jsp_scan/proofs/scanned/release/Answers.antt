use Rattle.jsp_sight.specs.Rows.{released_row}
use Rattle.jsp_table.proofs.Places.{one_more}
use Rattle.jsp_scan.proofs.scanned.release.Goals as goal

pub rows-preserved : goal.rows-preserved
rows-preserved c = one_more (released_row c.args.vote c.args.x c.args.space) _ _ _ _ _ c.rows-test.true c.rows.invariant c.release_row.ensures

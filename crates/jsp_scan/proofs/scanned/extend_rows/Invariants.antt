use Rattle.std.proofs.Common.{◌≡◌, ◌++◌, map, take, drop}
use Rattle.jsp_sight.specs.Rows.{row_ending}
use Rattle.jsp_scan.proofs.scanned.extend_rows.Given as goal

abbrev pub invariant-rows : goal.invariant-rows
invariant-rows l = l.rows ≡ map (row_ending l.number l.end) (take l.row-index l.initial.rows) ++ drop l.row-index l.initial.rows

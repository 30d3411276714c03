use Rattle.std.proofs.Common.{◌≡◌, ◌++◌, map, take, drop}
use Rattle.jsp_sight.specs.Rows.{taken_row}
use Rattle.jsp_scan.proofs.scanned.take_rows.Given as goal

abbrev pub invariant-rows : goal.invariant-rows
invariant-rows l = l.rows ≡ map (taken_row l.x l.numbers) (take l.row-index l.initial.rows) ++ drop l.row-index l.initial.rows

use Rattle.std.proofs.Common.{◌≡◌, ◌++◌, map, take, drop}
use Rattle.jsp_sight.specs.Rows.{released_row}
use Rattle.jsp_scan.proofs.scanned.release.Given as goal

abbrev pub invariant-rows : goal.invariant-rows
invariant-rows l = l.rows ≡ map (released_row l.vote l.x l.space) (take l.row-index l.initial.rows) ++ drop l.row-index l.initial.rows

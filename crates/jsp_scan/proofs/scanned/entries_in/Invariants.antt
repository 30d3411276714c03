use Rattle.std.proofs.Common.{◌≡◌, take}
use Rattle.jsp_sight.specs.Rows.{entries_among}
use Rattle.jsp_scan.proofs.scanned.entries_in.Given as goal

abbrev pub invariant-rows : goal.invariant-rows
invariant-rows l = l.entries ≡ entries_among l.numbers (take l.row-index l.rows)

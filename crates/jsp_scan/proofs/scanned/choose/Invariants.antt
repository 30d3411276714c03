use Rattle.std.proofs.Common.{◌≡◌, ◌≤◌, length, take}
use Rattle.jsp_sight.specs.Rows.{offered_among}
use Rattle.jsp_scan.proofs.scanned.choose.Given as goal

abbrev pub invariant-rows : goal.invariant-rows
invariant-rows l = record {
  found : l.numbers ≡ offered_among l.classes l.blocked (take l.row-index l.rows);
  few : length l.numbers ≤ l.most;
}

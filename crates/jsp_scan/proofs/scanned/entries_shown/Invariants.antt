use Rattle.std.proofs.Common.{◌≡◌, ◌≤◌, length, take}
use Rattle.jsp_sight.specs.Rows.{shown_among}
use Rattle.jsp_scan.proofs.scanned.entries_shown.Given as goal

abbrev pub invariant-rows : goal.invariant-rows
invariant-rows l = record {
  found : l.entries ≡ shown_among l.classes l.set (take l.row-index l.rows);
  few : length l.entries ≤ l.most;
}

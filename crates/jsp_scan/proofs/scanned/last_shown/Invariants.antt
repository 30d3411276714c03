use Rattle.std.proofs.Common.{◌≡◌, ◌≤◌, length, map, take, None}
use Rattle.std.specs.Prelude.{filter}
use Rattle.std.specs.List.{last_or}
use Rattle.jsp_sight.specs.Rows.{shows}
use Rattle.jsp_scan.proofs.scanned.last_shown.Given as goal

abbrev pub invariant-rows : goal.invariant-rows
invariant-rows l = record {
  found : l.last ≡ last_or None (map (λ row. row.number) (filter (shows l.classes l.set) (take l.row-index l.rows)));
  counted : l.count ≡ length (filter (shows l.classes l.set) (take l.row-index l.rows));
  few : l.count ≤ l.most;
}

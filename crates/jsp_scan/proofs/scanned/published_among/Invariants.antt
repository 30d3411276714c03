use Rattle.std.proofs.Common.{◌≡◌, take}
use Rattle.jsp_model.specs.Changes.{published}
use Rattle.jsp_scan.proofs.scanned.published_among.Given as goal

abbrev pub invariant-rows : goal.invariant-rows
invariant-rows l = l.published.items ≡ published l.x (take l.row-index l.rows)

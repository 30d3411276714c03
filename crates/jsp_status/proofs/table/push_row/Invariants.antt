use Rattle.std.proofs.Common.{◌≡◌, ◌++◌, map, take}
use Rattle.std.specs.List.{flat_map}
use Rattle.jsp_status.specs.Table.{cell_text, content_of}
use Rattle.jsp_status.proofs.table.push_row.Given as goal

abbrev pub invariant-cells : goal.invariant-cells
invariant-cells l =
    l.page.items ≡ l.initial.page.items ++ flat_map cell_text (map content_of (take l.cell-index l.cells))

use Rattle.std.proofs.Common.{◌≡◌, ◌++◌, take}
use Rattle.std.specs.List.{flat_map}
use Rattle.jsp_status.specs.Page.{connection_row}
use Rattle.jsp_status.proofs.page.push_connections.Given as goal

abbrev pub invariant-connections : goal.invariant-connections
invariant-connections l =
    l.page.items ≡ l.initial.page.items ++ flat_map connection_row (take l.connection-index l.connections)

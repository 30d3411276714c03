use Rattle.std.proofs.Common.{◌≡◌, map, take}
use Rattle.serde_json.specs.View.{view}
use Rattle.jsp_status.specs.Data.{connection_data}
use Rattle.jsp_status.proofs.json.connections_json.Given as goal

abbrev pub invariant-connections : goal.invariant-connections
invariant-connections l = map view l.list.items ≡ map connection_data (take l.connection-index l.connections)

use Rattle.std.proofs.Common.{◌≡◌, map, take}
use Rattle.serde_json.specs.View.{view}
use Rattle.jsp_status.specs.Data.{space_data}
use Rattle.jsp_status.proofs.json.spaces_json.Given as goal

abbrev pub invariant-spaces : goal.invariant-spaces
invariant-spaces l = map view l.list.items ≡ map space_data (take l.space-index l.spaces)

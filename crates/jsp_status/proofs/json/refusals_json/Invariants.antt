use Rattle.std.proofs.Common.{◌≡◌, map, take}
use Rattle.serde_json.specs.View.{view}
use Rattle.jsp_status.specs.Data.{refusal_data}
use Rattle.jsp_status.proofs.json.refusals_json.Given as goal

abbrev pub invariant-refusals : goal.invariant-refusals
invariant-refusals l = map view l.list.items ≡ map refusal_data (take l.refusal-index l.refusals)

use Rattle.std.proofs.Common.{◌∙◌}
use Rattle.jsp_keyed.proofs.Placed.{living_count}
use Rattle.jsp_keyed.proofs.slots.count_at.Goals as goal

pub returns : goal.returns
returns g c = c.count_filled.ensures ∙ living_count c.args.places.now

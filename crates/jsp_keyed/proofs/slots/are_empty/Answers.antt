use Rattle.std.proofs.Common.{◌∙◌}
use Rattle.jsp_keyed.proofs.Placed.{none_living}
use Rattle.jsp_keyed.proofs.slots.are_empty.Goals as goal

pub returns : goal.returns
returns g c = c.are_none.ensures ∙ none_living c.args.places.now

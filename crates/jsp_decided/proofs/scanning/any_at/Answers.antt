use Rattle.std.proofs.Common.{◌∙◌}
use Rattle.jsp_decided.proofs.Flat.{any_placed}
use Rattle.jsp_decided.proofs.scanning.any_at.Goals as goal

pub returns : goal.returns
returns g c = c.any_place.ensures ∙ any_placed (g.P.Test.is_passed c.args.test.now) c.args.places.now

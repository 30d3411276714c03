use Rattle.std.proofs.Common.{◌∙◌}
use Rattle.jsp_decided.proofs.Flat.{count_placed}
use Rattle.jsp_decided.proofs.scanning.count_at.Goals as goal

pub returns : goal.returns
returns g c = c.count_places.ensures ∙ count_placed (g.P.Test.is_passed c.args.test.now) c.args.places.now

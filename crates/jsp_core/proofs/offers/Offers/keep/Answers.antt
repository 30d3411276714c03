use Rattle.jsp_core.proofs.Offering.{kept_view}
use Rattle.jsp_core.proofs.offers.Offers.keep.Goals as goal

pub returns : goal.returns
returns g c = kept_view c.self.inside.is_any (g.P.Test.is_passed c.args.test.now) c.self.inside.numbers.items c.keep_passing.new.numbers.items c.args.self.now c.keep_passing.ensures c.self.view_is

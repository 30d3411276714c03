use Rattle.std.proofs.Common.{◌∙◌, Some, None}
use Rattle.jsp_keyed.proofs.Placed.{any_numbered}
use Rattle.jsp_keyed.proofs.keyed.Keyed.any_of.Goals as goal

pub returns-in-None : goal.returns-in-None
returns-in-None g c = any_numbered g.K.Numbering.number_of c.args.number (g.P.Test.is_passed c.args.test.now) c.args.self.now c.places.ensures.rising None c.in-None.ensures

pub returns-in-Some : goal.returns-in-Some
returns-in-Some g c = c.passes.ensures ∙ any_numbered g.K.Numbering.number_of c.args.number (g.P.Test.is_passed c.args.test.now) c.args.self.now c.places.ensures.rising (Some c.in-Some.thing.now) c.in-Some.ensures

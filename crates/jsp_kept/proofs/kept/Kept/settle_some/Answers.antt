use Rattle.jsp_kept.proofs.Turning.{votes_then}
use Rattle.jsp_kept.proofs.kept.Kept.settle_some.Goals as goal

pub returns-clause-performs : goal.returns-clause-performs
returns-clause-performs g c = votes_then _ _ _ c.settle_part.result c.make_place.ensures.prepares c.settle_part.ensures.performs

pub returns-clause-long : goal.returns-clause-long
returns-clause-long g c = rw (← c.make_place.ensures.begun, ← c.make_place.ensures.limit) c.settle_part.ensures.long

use Rattle.jsp_kept.proofs.Besides.{prepares_behind}
use Rattle.jsp_kept.proofs.kept.Kept.make_ready_some.Goals as goal

pub returns-clause-prepares : goal.returns-clause-prepares
returns-clause-prepares g c = prepares_behind _ _ _ c.ready_part.result c.make_place.ensures.grows c.make_place.ensures.state c.make_place.ensures.debt c.ready_part.ensures.prepares

pub returns-clause-long : goal.returns-clause-long
returns-clause-long g c = rw (← c.make_place.ensures.begun, ← c.make_place.ensures.limit) c.ready_part.ensures.long

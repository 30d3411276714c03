use Rattle.std.proofs.Common.{[]}
use Rattle.jsp_kept.proofs.Growing.{performs_then}
use Rattle.jsp_kept.proofs.kept.Kept.finish_some.Goals as goal

pub returns-clause-performs : goal.returns-clause-performs
returns-clause-performs g c = performs_then _ _ _ [] c.finish_part.result c.make_place.ensures.prepares c.finish_part.ensures.performs

pub returns-clause-long : goal.returns-clause-long
returns-clause-long g c = rw (← c.make_place.ensures.begun, ← c.make_place.ensures.limit) c.finish_part.ensures.long

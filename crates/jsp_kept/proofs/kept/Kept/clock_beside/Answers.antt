use Rattle.jsp_model.specs.declared.house.Input.TheVariants as input
use Rattle.jsp_kept.proofs.Besides.{performs_behind}
use Rattle.jsp_kept.proofs.kept.Kept.clock_beside.Goals as goal

pub returns-clause-performs : goal.returns-clause-performs
returns-clause-performs g c = performs_behind _ _ _ (input.Clock c.args.time) c.clock_part.result c.make_place.ensures.grows c.make_place.ensures.state c.make_place.ensures.debt c.clock_part.ensures.performs

pub returns-clause-long : goal.returns-clause-long
returns-clause-long g c = rw (← c.make_place.ensures.begun, ← c.make_place.ensures.limit) c.clock_part.ensures.long

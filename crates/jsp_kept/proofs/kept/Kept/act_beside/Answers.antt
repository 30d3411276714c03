use Rattle.jsp_kept.proofs.Besides.{performs_behind}
use Rattle.jsp_kept.proofs.kept.Kept.act_beside.Goals as goal

pub returns-clause-performs : goal.returns-clause-performs
returns-clause-performs g c = λ lawful. performs_behind _ _ _ c.args.input c.act_part.result c.make_place.ensures.grows c.make_place.ensures.state c.make_place.ensures.debt c.act_part.ensures.performs

pub returns-clause-long : goal.returns-clause-long
returns-clause-long g c = λ lawful. rw (← c.make_place.ensures.begun, ← c.make_place.ensures.limit) c.act_part.ensures.long

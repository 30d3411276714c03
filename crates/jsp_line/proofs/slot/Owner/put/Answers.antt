use Rattle.jsp_line.proofs.Putting.{puts_at}
use Rattle.jsp_line.proofs.slot.Owner.put.Goals as goal

pub try_push_as-requires-clause-rule : goal.try_push_as-requires-clause-rule
try_push_as-requires-clause-rule c = puts_at _ _ _ _ c.self.inside.slot.now.one c.self.invariant.1 c.requires

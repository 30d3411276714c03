use Rattle.jsp_line.proofs.Putting.{takes_at}
use Rattle.jsp_line.proofs.slot.Owner.take_once.Goals as goal

pub try_pop_as-requires-clause-rule : goal.try_pop_as-requires-clause-rule
try_pop_as-requires-clause-rule c = takes_at _ _ c.self.invariant.1

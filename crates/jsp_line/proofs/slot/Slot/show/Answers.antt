use Rattle.jsp_line.proofs.Putting.{shows}
use Rattle.jsp_line.proofs.slot.Slot.show.Goals as goal

pub try_push_as-requires-clause-rule : goal.try_push_as-requires-clause-rule
try_push_as-requires-clause-rule c = shows _ _ _ _

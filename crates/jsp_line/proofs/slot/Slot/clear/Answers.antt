use Rattle.jsp_line.proofs.Putting.{admits, clears}
use Rattle.jsp_line.proofs.slot.Slot.clear.Goals as goal

pub pass-pass-requires : goal.pass-pass-requires
pass-pass-requires g c = admits

pub try_pop_as-requires-clause-rule : goal.try_pop_as-requires-clause-rule
try_pop_as-requires-clause-rule g c = clears _ _

use Rattle.std.proofs.Common.{◌≡◌}
use Rattle.jsp_line.proofs.slot.Owner.take.Given as goal

abbrev pub invariant-loop : goal.invariant-loop
invariant-loop g l = l.self ≡ l.initial.self

use Rattle.std.proofs.Common.{◌≡◌}
use Rattle.std.specs.List.{range_with_len}
use Rattle.jsp_entries.proofs.write.numbers_from.Given as goal

abbrev pub invariant-places : goal.invariant-places
invariant-places l = l.numbers ≡ range_with_len l.first l.place

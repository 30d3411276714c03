use Rattle.std.proofs.Common.{◌≡◌}
use Rattle.jsp_entries.proofs.search.learn.Given as goal

abbrev pub invariant-templates : goal.invariant-templates
invariant-templates l = l.state ≡ l.fn.state

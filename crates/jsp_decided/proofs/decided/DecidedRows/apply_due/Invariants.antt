use Rattle.std.proofs.Common.{◌≡◌, length}
use Rattle.jsp_decided.specs.Decided.{rows_of}
use Rattle.jsp_decided.proofs.decided.DecidedRows.apply_due.Given as goal

abbrev pub invariant-spaces : goal.invariant-spaces
invariant-spaces l = rows_of l.self ≡ rows_of l.fn.self

abbrev pub decreases-spaces : goal.decreases-spaces
decreases-spaces l = length l.self.recorded.items

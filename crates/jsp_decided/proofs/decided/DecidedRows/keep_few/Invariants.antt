use Rattle.std.proofs.Common.{◌≡◌, length}
use Rattle.jsp_decided.specs.Decided.{rows_of}
use Rattle.jsp_decided.proofs.decided.DecidedRows.keep_few.Given as goal

abbrev pub invariant-oldest : goal.invariant-oldest
invariant-oldest l = rows_of l.self ≡ rows_of l.fn.self

abbrev pub decreases-oldest : goal.decreases-oldest
decreases-oldest l = length l.self.recorded.items

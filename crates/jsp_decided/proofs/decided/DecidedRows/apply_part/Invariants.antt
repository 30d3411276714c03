use Rattle.std.proofs.Common.{◌≡◌}
use Rattle.jsp_decided.specs.Decided.{rows_of}
use Rattle.jsp_decided.proofs.decided.DecidedRows.apply_part.Given as goal

abbrev pub invariant-records : goal.invariant-records
invariant-records l = rows_of l.self ≡ rows_of l.fn.self

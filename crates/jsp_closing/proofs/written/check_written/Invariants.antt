use Rattle.std.proofs.Common.{◌+◌}
use Rattle.jsp_closing.specs.Writing.{MayBeWritten}
use Rattle.jsp_closing.proofs.Places.{EachBelow}
use Rattle.jsp_closing.proofs.written.check_written.Given as goal

abbrev pub invariant-loop-i : goal.invariant-loop-i
invariant-loop-i l = EachBelow (λ j report. MayBeWritten (j + 1) l.said report) l.reports l.i

use Rattle.std.proofs.Common.{[], take}
use Rattle.jsp_closing.specs.Asking.{HaveGiven}
use Rattle.jsp_closing.proofs.asked.feed_lines.Given as goal

abbrev pub invariant-loop-report : goal.invariant-loop-report
invariant-loop-report l = HaveGiven (take l.report-index l.reports) l.lines.items []

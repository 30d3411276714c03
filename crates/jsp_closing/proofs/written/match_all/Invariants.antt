use Rattle.std.proofs.Common.{take}
use Rattle.jsp_closing.specs.Writing.{AreMatched}
use Rattle.jsp_closing.proofs.written.match_all.Given as goal

abbrev pub invariant-loop-session : goal.invariant-loop-session
invariant-loop-session l = AreMatched l.reports l.matched.items (take l.session-index l.said)

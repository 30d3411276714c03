use Rattle.std.proofs.Common.{◌≡◌, ◌+◌, take, length, filter}
use Rattle.jsp_closing.specs.Closing.{opens}
use Rattle.jsp_closing.proofs.closing.are_opened.Given as goal

abbrev pub invariant-loop-step : goal.invariant-loop-step
invariant-loop-step l = l.left + length (filter opens (take l.step-index l.steps)) ≡ l.count

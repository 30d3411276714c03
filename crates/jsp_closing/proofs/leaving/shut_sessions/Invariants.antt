use Rattle.std.proofs.Common.{◌≡◌, take, length}
use Rattle.jsp_closing.specs.Leaving.{TellShut}
use Rattle.jsp_closing.proofs.leaving.shut_sessions.Given as goal

abbrev pub invariant-loop-step : goal.invariant-loop-step
invariant-loop-step l = (length l.flags.items ≡ l.count) × TellShut l.flags.items (take l.step-index l.steps)

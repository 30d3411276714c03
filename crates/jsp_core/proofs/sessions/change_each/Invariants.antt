use Rattle.std.proofs.Common.{◌≡◌, ◌++◌, map, take, drop}
use Rattle.jsp_core.specs.Numbering.{versioned}
use Rattle.jsp_core.proofs.sessions.change_each.Given as goal

abbrev pub invariant-sessions : goal.invariant-sessions
invariant-sessions l = l.sessions ≡ map (versioned l.number l.version) (take l.session-index l.initial.sessions) ++ drop l.session-index l.initial.sessions

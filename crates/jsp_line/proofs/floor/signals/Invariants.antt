use Rattle.std.proofs.Common.{◌<◌, vec_len}
use Rattle.jsp_line.proofs.floor.signals.Given as goal

abbrev pub invariant-loop : goal.invariant-loop
invariant-loop l = 0 < vec_len l.signals

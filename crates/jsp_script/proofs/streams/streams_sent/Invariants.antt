use Rattle.std.proofs.Common.{take}
use Rattle.jsp_drive.specs.Tie.{bytes_to}
use Rattle.jsp_script.specs.Audit.{Has}
use Rattle.jsp_script.proofs.streams.streams_sent.Given as goal

abbrev pub invariant-sent : goal.invariant-sent
invariant-sent l = Has l.streams (λ s. bytes_to s (take l.one-index l.sent))

use Rattle.std.proofs.Common.{take}
use Rattle.jsp_script.specs.Audit.{Has, frames_to}
use Rattle.jsp_script.proofs.streams.streams_said.Given as goal

abbrev pub invariant-said : goal.invariant-said
invariant-said l = Has l.streams (λ s. frames_to s (take l.session-index l.said))

use Rattle.std.proofs.Common.{◌≡◌, take}
use Rattle.jsp_drive.specs.Tie.{bytes_to}
use Rattle.jsp_drive.proofs.acts.Driven.bytes_of.Given as goal

abbrev pub invariant-loop-sent : goal.invariant-loop-sent
invariant-loop-sent l = l.bytes.items ≡ bytes_to l.session (take l.sent-index l.self.sent.items)

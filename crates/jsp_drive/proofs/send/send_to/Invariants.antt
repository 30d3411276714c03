use Rattle.std.proofs.Common.{◌≡◌, ◌++◌, take}
use Rattle.std.specs.Prelude.{map}
use Rattle.jsp_drive.specs.Tie.{frame_for}
use Rattle.jsp_drive.proofs.send.send_to.Given as goal

abbrev pub invariant-loop-said : goal.invariant-loop-said
invariant-loop-said l = l.sent.items ≡ l.initial.sent.items ++ map (frame_for l.act l.session) (take l.said-index l.answers)

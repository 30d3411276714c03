use Rattle.std.proofs.Common.{◌≡◌, length}
use Rattle.jsp_drive.proofs.Sending.{Sending}
use Rattle.jsp_drive.proofs.send.send_all.Given as goal

abbrev pub invariant-sessions : goal.invariant-sessions
invariant-sessions g l = (g.H.House.bound_of l.house ≡ g.H.House.bound_of l.initial.house) × Sending l.act (g.H.House.view l.initial.house) (g.H.House.view l.house) l.initial.steps.items l.steps.items l.initial.sent.items l.sent.items

abbrev pub decreases-sessions : goal.decreases-sessions
decreases-sessions g l = length (g.H.House.view l.house).outboxes

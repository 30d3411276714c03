use Rattle.std.proofs.Common.{◌≡◌}
use Rattle.jsp_drive.proofs.Serving.{Goes, left}
use Rattle.jsp_drive.proofs.serve.serve.Given as goal

abbrev pub invariant-frames : goal.invariant-frames
invariant-frames g l = (g.H.House.bound_of l.house ≡ g.H.House.bound_of l.initial.house) × Goes l.session (g.H.House.view l.initial.house) (g.H.House.view l.house) l.initial.steps.items l.steps.items l.initial.line l.line

abbrev pub decreases-frames : goal.decreases-frames
decreases-frames g l = left l.line

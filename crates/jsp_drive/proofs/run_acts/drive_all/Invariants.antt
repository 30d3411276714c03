use Rattle.std.proofs.Common.{◌≡◌, None, drop}
use Rattle.jsp_drive.proofs.Tying.{Driving}
use Rattle.jsp_drive.proofs.run_acts.drive_all.Given as goal

abbrev pub invariant-loop-n : goal.invariant-loop-n
invariant-loop-n g l = (g.H.House.bound_of l.house ≡ None) × Driving (g.H.House.view l.fn.house) (g.H.House.view l.house) l.lines l.n l.acts (drop l.n l.acts) l.steps.items l.sent.items

use Rattle.jsp_drive.proofs.Turning.{turned}
use Rattle.jsp_drive.proofs.perform.settle.Goals as goal

pub returns-in-Ok-clause-turns : goal.returns-in-Ok-clause-turns
returns-in-Ok-clause-turns g c = turned _ _ _ _ _ _ _ (rw c.in-Ok.is at c.settle.ensures.settles)

use Rattle.jsp_drive.proofs.Performing.{shut_made}
use Rattle.jsp_drive.proofs.perform.shut.Goals as goal

pub returns-clause-performs : goal.returns-clause-performs
returns-clause-performs g c = shut_made _ _ _ _ _ _ _ c.drop_line.ensures (rw c.in_ok-reserve.ensures.items at c.shut.ensures.steps)

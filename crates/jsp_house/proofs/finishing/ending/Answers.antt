use Rattle.jsp_quiet.proofs.Laws.{goes_on}
use Rattle.jsp_house.proofs.finishing.ending.Goals as goal

pub returns-in-None-clause-legal : goal.returns-in-None-clause-legal
returns-in-None-clause-legal c = goes_on.end c.args.image.now c.args.item c.requires (rw c.in-None.is at c.in_ok-quieting_for.ensures.none)

use Rattle.std.proofs.Common.{sym}
use Rattle.jsp_house.proofs.QuietingSteps.{released_unquiet}
use Rattle.jsp_house.proofs.quieting.quieting_step.Goals as goal

pub returns-in_ok-answering_step-in-Some-clause-some : goal.returns-in_ok-answering_step-in-Some-clause-some
returns-in_ok-answering_step-in-Some-clause-some c = released_unquiet c.args.image.now c.args.space c.in-Some.waiting.now (sym c.in-Some.ensures)

use Rattle.jsp_house.proofs.Opening.{opens_none}
use Rattle.jsp_house.proofs.acting.act_ready.Goals as goal

pub returns-in-Open-clause-opens : goal.returns-in-Open-clause-opens
returns-in-Open-clause-opens c = opens_none c.in-Open.session c.args.input c.open_ready.result c.in-Open.is c.open_ready.ensures.not_done

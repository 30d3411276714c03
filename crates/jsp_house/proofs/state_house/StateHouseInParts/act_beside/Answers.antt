use Rattle.jsp_house.proofs.Staying.{makes_steady}
use Rattle.jsp_house.proofs.state_house.StateHouseInParts.act_beside.Goals as goal

pub invariant_of-self-2 : goal.invariant_of-self-2
invariant_of-self-2 g c = record { steady = makes_steady c.args.self.now.image c.act_ready-result.new.image c.args.log.now.items c.act_ready-result.new.log.items c.act_ready-result.ensures.acts.steps c.act_ready-result.ensures.acts.makes c.args.self.now.steady }

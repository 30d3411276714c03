use Rattle.jsp_house.proofs.Staying.{makes_steady}
use Rattle.jsp_house.proofs.state_house.StateHouseInParts.make_ready_beside.Goals as goal

pub invariant_of-self-in-Ok : goal.invariant_of-self-in-Ok
invariant_of-self-in-Ok g c = record { steady = makes_steady c.args.self.now.image c.make_ready-result.new.image c.args.log.now.items c.make_ready-result.new.log.items c.make_ready-result.ensures.goes.steps c.make_ready-result.ensures.goes.makes c.args.self.now.steady }

pub invariant_of-self-in-Err-result : goal.invariant_of-self-in-Err-result
invariant_of-self-in-Err-result g c = record { steady = makes_steady c.args.self.now.image c.make_ready-result.new.image c.args.log.now.items c.make_ready-result.new.log.items c.make_ready-result.ensures.goes.steps c.make_ready-result.ensures.goes.makes c.args.self.now.steady }

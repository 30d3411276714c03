use Rattle.std.proofs.Common.{◌++◌}
use Rattle.jsp_house.proofs.Idling.{settles_none}
use Rattle.jsp_house.proofs.Staying.{makes_steady}
use Rattle.jsp_house.proofs.state_house.StateHouseHouse.settle.Goals as goal

pub invariant_of-self-2 : goal.invariant_of-self-2
invariant_of-self-2 g c = record { steady = makes_steady c.args.self.now.image c.settle.new.image c.args.log.now.items c.settle.new.log.items c.settle.ensures.settles.steps c.settle.ensures.settles.makes c.args.self.now.steady }

pub returns-in-Err-clause-settles : goal.returns-in-Err-clause-settles
returns-in-Err-clause-settles g c =
    rw c.join.ensures.same (settles_none c.args.self.now.image (c.args.self.now.debt.items ++ c.args.self.now.latest.items) c.args.log.now.items _ c.in-Err.ensures.err)

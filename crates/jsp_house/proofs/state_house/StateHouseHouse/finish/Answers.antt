use Rattle.std.proofs.Common.{◌++◌}
use Rattle.jsp_house.proofs.Going.{finishes_none}
use Rattle.jsp_house.proofs.Staying.{makes_steady}
use Rattle.jsp_house.proofs.state_house.StateHouseHouse.finish.Goals as goal

pub invariant_of-self-2 : goal.invariant_of-self-2
invariant_of-self-2 g c = record { steady = makes_steady c.args.self.now.image c.clear.new.image c.args.log.now.items c.clear.new.log.items c.clear.ensures.finishes.steps c.clear.ensures.finishes.makes c.args.self.now.steady }

pub returns-in-Err-clause-finishes : goal.returns-in-Err-clause-finishes
returns-in-Err-clause-finishes g c =
    rw c.join.ensures.same (finishes_none c.args.self.now.image (c.args.self.now.debt.items ++ c.args.self.now.latest.items) c.args.log.now.items _)

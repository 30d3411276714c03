use Rattle.std.proofs.Common.{◌++◌}
use Rattle.jsp_house.proofs.Going.{goes_start}
use Rattle.jsp_house.proofs.Staying.{makes_steady}
use Rattle.jsp_house.proofs.state_house.StateHouseHouse.make_ready.Goals as goal

pub invariant_of-self-2 : goal.invariant_of-self-2
invariant_of-self-2 g c = record { steady = makes_steady c.args.self.now.image c.make_ready.new.image c.args.log.now.items c.make_ready.new.log.items c.make_ready.ensures.goes.steps c.make_ready.ensures.goes.makes c.args.self.now.steady }

pub returns-in-Err-clause-goes : goal.returns-in-Err-clause-goes
returns-in-Err-clause-goes g c = rw c.join.ensures.same (goes_start c.args.self.now.image (c.args.self.now.debt.items ++ c.args.self.now.latest.items) c.args.log.now.items)

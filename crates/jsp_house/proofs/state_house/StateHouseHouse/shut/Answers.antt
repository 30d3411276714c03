use Rattle.jsp_model.specs.House.{shuts}
use Rattle.jsp_house.proofs.Staying.{makes_steady}
use Rattle.jsp_house.proofs.state_house.StateHouseHouse.shut.Goals as goal

pub invariant_of-self : goal.invariant_of-self
invariant_of-self g c = record { steady = makes_steady c.args.self.now.image c.close.new.image c.args.log.now.items c.close.new.log.items (shuts c.args.self.now.image c.args.session) c.close.ensures.steps c.args.self.now.steady }

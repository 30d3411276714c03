use Rattle.std.proofs.Common.{length}
use Rattle.jsp_model.specs.House.{handed_out}
use Rattle.jsp_house.proofs.Staying.{stays_steady}
use Rattle.jsp_house.proofs.state_house.StateHouseHouse.hand_out.Goals as goal

pub invariant_of-self : goal.invariant_of-self
invariant_of-self g c = record {
  steady = stays_steady c.args.self.now.image c.answer.new.image c.args.log.now.items c.answer.new.log.items (λ v. handed_out c.args.session (length v.items)) c.answer.result c.answer.ensures.steps c.answer.ensures.err c.args.self.now.steady;
}

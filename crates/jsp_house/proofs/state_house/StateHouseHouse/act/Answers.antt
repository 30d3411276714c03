use Rattle.std.proofs.Common.{◌++◌, ap}
use Rattle.jsp_model.specs.declared.house.Stopped.{Stopped}
use Rattle.jsp_house.proofs.Going.{goes_start}
use Rattle.jsp_house.proofs.Opening.{opens_stopped}
use Rattle.jsp_house.proofs.Staying.{makes_steady}
use Rattle.jsp_house.proofs.state_house.StateHouseHouse.act.Goals as goal

pub invariant_of-self-2 : goal.invariant_of-self-2
invariant_of-self-2 g c = record { steady = makes_steady c.args.self.now.image c.act.new.image c.args.log.now.items c.act.new.log.items c.act.ensures.acts.steps c.act.ensures.acts.makes c.args.self.now.steady }

pub returns-in-Err-clause-acts : goal.returns-in-Err-clause-acts
returns-in-Err-clause-acts g c =
    let st = c.args.self.now.image in
    let owed = c.args.self.now.debt.items ++ c.args.self.now.latest.items in
    let log = c.args.log.now.items in
    rw c.join.ensures.same (opens_stopped st st owed owed log log c.args.input _ (ap (λ (e : Stopped). e.done) c.in-Err.ensures.err) (goes_start st owed log))

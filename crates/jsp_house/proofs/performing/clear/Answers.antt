use Rattle.jsp_house.proofs.Going.{finishes_all, finishes_some}
use Rattle.jsp_house.proofs.performing.clear.Goals as goal

pub returns-in-Err-clause-finishes : goal.returns-in-Err-clause-finishes
returns-in-Err-clause-finishes c =
    finishes_some c.args.image.now c.finish.new.image c.args.debt.now.items c.finish.new.debt.items c.args.log.now.items c.finish.new.log.items (record { why = c.in-Err.why; done = c.args.done }) c.finish.ensures.goes

pub returns-in-Ok-clause-finishes : goal.returns-in-Ok-clause-finishes
returns-in-Ok-clause-finishes c =
    finishes_all c.args.image.now c.finish.new.image c.args.debt.now.items c.finish.new.debt.items c.clear.new.self.items c.args.log.now.items c.finish.new.log.items c.finish.ensures.goes c.in-Ok.ensures.done c.clear.ensures.items

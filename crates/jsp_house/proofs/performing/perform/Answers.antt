use Rattle.std.proofs.Common.{refl}
use Rattle.jsp_house.proofs.After.{performs_after}
use Rattle.jsp_house.proofs.Coming.{goes_still}
use Rattle.jsp_house.proofs.PerformingSteps.{performs_none}
use Rattle.jsp_house.proofs.performing.perform.Goals as goal

pub returns-in-Err-clause-performs : goal.returns-in-Err-clause-performs
returns-in-Err-clause-performs c =
    performs_none c.args.image.now c.finish.new.image c.args.debt.now.items c.finish.new.debt.items c.args.log.now.items c.finish.new.log.items c.args.step _ refl c.finish.ensures.goes

pub perform_ready-requires-clause-may_come : goal.perform_ready-requires-clause-may_come
perform_ready-requires-clause-may_come c = goes_still c.args.image.now c.finish.new.image c.args.debt.now.items c.finish.new.debt.items c.args.log.now.items c.finish.new.log.items c.args.step c.finish.ensures.goes c.requires.may_come

pub returns-clause-performs : goal.returns-clause-performs
returns-clause-performs c =
    performs_after c.perform_ready.result c.args.image.now c.finish.new.image c.perform_ready.new.image c.args.debt.now.items c.finish.new.debt.items c.perform_ready.new.debt.items
    c.args.log.now.items c.finish.new.log.items c.perform_ready.new.log.items c.args.step c.finish.ensures.goes c.perform_ready.ensures.performs

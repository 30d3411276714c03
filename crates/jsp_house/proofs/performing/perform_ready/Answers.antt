use Rattle.std.proofs.Common.{refl}
use Rattle.jsp_house.proofs.Going.{goes_none, goes_start}
use Rattle.jsp_house.proofs.PerformingSteps.{performs_none, performs_all}
use Rattle.jsp_house.proofs.performing.perform_ready.Goals as goal

pub returns-in-Err-clause-performs : goal.returns-in-Err-clause-performs
returns-in-Err-clause-performs c =
    let none = c.in-Err.ensures in
    performs_none c.args.image.now c.make_own.new.image c.args.debt.now.items c.make_own.new.debt.items c.args.log.now.items c.make_own.new.log.items c.args.step _ refl
    (goes_none c.args.image.now c.args.image.now c.make_own.new.image c.args.debt.now.items c.args.debt.now.items c.make_own.new.debt.items c.args.log.now.items c.args.log.now.items c.make_own.new.log.items
    (goes_start c.args.image.now c.args.debt.now.items c.args.log.now.items) none.stays none.once none.err.0 none.err.1)

pub returns-in-Ok-clause-performs : goal.returns-in-Ok-clause-performs
returns-in-Ok-clause-performs c =
    performs_all c.clear.result c.args.image.now c.make_own.new.image c.clear.new.image c.args.debt.now.items c.make_own.new.debt.items c.clear.new.debt.items
    c.args.log.now.items c.make_own.new.log.items c.clear.new.log.items c.args.step c.in-Ok.ensures.made c.clear.ensures.finishes c.clear.ensures.done

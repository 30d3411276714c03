use Rattle.std.proofs.Common.{refl}
use Rattle.jsp_house.proofs.After.{acts_after, passed_after}
use Rattle.jsp_house.proofs.Opening.{opens_stopped, unmade_opens_none}
use Rattle.jsp_house.proofs.acting.act.Goals as goal

pub returns-in-Err-clause-acts : goal.returns-in-Err-clause-acts
returns-in-Err-clause-acts c =
    opens_stopped c.args.image.now c.make_ready.new.image c.args.debt.now.items c.make_ready.new.debt.items c.args.log.now.items c.make_ready.new.log.items c.args.input _ refl c.make_ready.ensures.goes

pub returns-in-Err-clause-opens : goal.returns-in-Err-clause-opens
returns-in-Err-clause-opens c = unmade_opens_none c.args.input _ refl

pub returns-clause-acts : goal.returns-clause-acts
returns-clause-acts c =
    acts_after c.act_ready.result c.args.image.now c.make_ready.new.image c.act_ready.new.image c.args.debt.now.items c.make_ready.new.debt.items c.act_ready.new.debt.items
    c.args.log.now.items c.make_ready.new.log.items c.act_ready.new.log.items c.args.input c.make_ready.ensures.goes c.act_ready.ensures.acts

pub returns-clause-passed_over : goal.returns-clause-passed_over
returns-clause-passed_over c =
    passed_after c.act_ready.result c.args.image.now c.make_ready.new.image c.args.debt.now.items c.make_ready.new.debt.items c.args.log.now.items c.make_ready.new.log.items c.args.input c.make_ready.ensures.goes c.act_ready.ensures.passed_over

use Rattle.std.proofs.Common.{sym, ◌∙◌, ap, subst, Ok}
use Rattle.jsp_model.specs.declared.house.Settled.{Settled}
use Rattle.jsp_model.specs.Settling.{settle_step}
use Rattle.jsp_model.specs.House.{Settles}
use Rattle.jsp_house.proofs.Turning.{settle_comes, settle_bare, turned, turn_stopped}
use Rattle.jsp_house.proofs.settling.settle.Goals as goal

pub perform-requires-clause-may_come : goal.perform-requires-clause-may_come
perform-requires-clause-may_come c =
    settle_comes c.args.image.now c.in-Some.step c.state.ensures.limits (ap settle_step (sym c.state.ensures.state) ∙ sym c.in-Some.ensures)

pub perform-requires-clause-bare : goal.perform-requires-clause-bare
perform-requires-clause-bare c = settle_bare c.args.image.now c.in-Some.step (ap settle_step (sym c.state.ensures.state) ∙ sym c.in-Some.ensures)

pub returns-in-Err-clause-settles : goal.returns-in-Err-clause-settles
returns-in-Err-clause-settles c =
    turn_stopped c.args.image.now c.perform.new.image c.args.debt.now.items c.perform.new.debt.items c.args.log.now.items c.perform.new.log.items c.in-Some.step c.in-Err.stopped (ap settle_step (sym c.state.ensures.state) ∙ sym c.in-Some.ensures) c.in-Err.ensures.performs

pub returns-in-Ok-clause-settles : goal.returns-in-Ok-clause-settles
returns-in-Ok-clause-settles c =
    subst (λ (s : Settled). Settles c.args.image.now c.perform.new.image c.args.debt.now.items c.perform.new.debt.items c.args.log.now.items c.perform.new.log.items (Ok s)) (sym c.answer_of-settled.ensures)
    (turned c.args.image.now c.perform.new.image c.args.debt.now.items c.perform.new.debt.items c.args.log.now.items c.perform.new.log.items c.in-Some.step (ap settle_step (sym c.state.ensures.state) ∙ sym c.in-Some.ensures) c.in-Ok.ensures.performs)

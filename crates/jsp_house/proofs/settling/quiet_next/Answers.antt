use Rattle.std.proofs.Common.{sym, subst, Ok, Err}
use Rattle.jsp_model.specs.declared.state.State.{State}
use Rattle.jsp_model.specs.House.{Finishes}
use Rattle.jsp_house.proofs.Idling.{idle, idling_stopped}
use Rattle.jsp_house.proofs.settling.quiet_next.Goals as goal

pub returns-in-Err-clause-settles : goal.returns-in-Err-clause-settles
returns-in-Err-clause-settles c =
    idling_stopped c.args.image.now c.clear.new.image c.args.debt.now.items c.clear.new.debt.items c.args.log.now.items c.clear.new.log.items c.in-Err.stopped c.requires.none
    (sym c.in-None.ensures.found)
    (subst (λ (st : State). Finishes st c.clear.new.image c.args.debt.now.items c.clear.new.debt.items c.args.log.now.items c.clear.new.log.items (Err c.in-Err.stopped)) c.first_to_quiet.ensures.same c.in-Err.ensures.finishes)

pub returns-in-Ok-clause-settles : goal.returns-in-Ok-clause-settles
returns-in-Ok-clause-settles c =
    idle c.args.image.now c.clear.new.image c.args.debt.now.items c.clear.new.debt.items c.args.log.now.items c.clear.new.log.items c.requires.steady c.requires.none
    (sym c.in-None.ensures.found)
    (subst (λ (st : State). Finishes st c.clear.new.image c.args.debt.now.items c.clear.new.debt.items c.args.log.now.items c.clear.new.log.items (Ok tt)) c.first_to_quiet.ensures.same c.in-Ok.ensures.finishes)

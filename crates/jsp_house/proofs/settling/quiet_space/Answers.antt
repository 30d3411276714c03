use Rattle.std.proofs.Common.{subst, refl}
use Rattle.jsp_model.specs.House.{Covers}
use Rattle.jsp_house.proofs.Idling.{quieted, quieting_stopped, quieting_unmade}
use Rattle.jsp_house.proofs.settling.quiet_space.Goals as goal

pub returns-in-Err-clause-settles : goal.returns-in-Err-clause-settles
returns-in-Err-clause-settles c =
    quieting_unmade c.args.image.now c.args.debt.now.items c.owe.new.debt.items c.args.log.now.items _ c.requires.none refl c.owe.ensures.stay c.owe.ensures.once

pub returns-in-Err-clear-clause-settles : goal.returns-in-Err-clear-clause-settles
returns-in-Err-clear-clause-settles c =
    quieting_stopped c.args.image.now c.clear.new.image c.args.debt.now.items c.owe.new.debt.items c.clear.new.debt.items c.args.log.now.items c.clear.new.log.items c.args.space c.in-Err-clear.stopped c.requires.none c.requires.found c.owe.ensures.stay c.owe.ensures.once
    (subst (λ ps. Covers c.owe.new.debt.items ps) c.from_ref.ensures.value c.in_default.ensures.ok) c.in-Err-clear.ensures.finishes

pub returns-in-Ok-clause-settles : goal.returns-in-Ok-clause-settles
returns-in-Ok-clause-settles c =
    quieted c.args.image.now c.clear.new.image c.args.debt.now.items c.owe.new.debt.items c.clear.new.debt.items c.args.log.now.items c.clear.new.log.items c.args.space c.requires.none c.requires.found c.owe.ensures.stay c.owe.ensures.once
    (subst (λ ps. Covers c.owe.new.debt.items ps) c.from_ref.ensures.value c.in_default.ensures.ok) c.in-Ok.ensures.finishes

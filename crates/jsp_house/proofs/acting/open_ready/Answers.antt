use Rattle.std.proofs.Common.{refl}
use Rattle.jsp_model.specs.declared.house.Input.TheVariants as input
use Rattle.jsp_house.proofs.Going.{goes_none, goes_start}
use Rattle.jsp_house.proofs.Order.{covers_itself}
use Rattle.jsp_house.proofs.Opening.{open_legal, opens_stopped, opens}
use Rattle.jsp_house.proofs.acting.open_ready.Goals as goal

pub make-requires-clause-legal : goal.make-requires-clause-legal
make-requires-clause-legal c = open_legal c.args.image.now c.args.session c.requires.accepted

pub returns-in-Err-clause-acts : goal.returns-in-Err-clause-acts
returns-in-Err-clause-acts c =
    let none = c.in-Err.ensures.err in
    opens_stopped c.args.image.now c.make.new.image c.args.debt.now.items c.args.debt.now.items c.args.log.now.items c.make.new.log.items (input.Open c.args.session) _ refl
    (goes_none c.args.image.now c.args.image.now c.make.new.image c.args.debt.now.items c.args.debt.now.items c.args.debt.now.items c.args.log.now.items c.args.log.now.items c.make.new.log.items
    (goes_start c.args.image.now c.args.debt.now.items c.args.log.now.items) (covers_itself c.args.debt.now.items) (λ h. h) none.0 none.1)

pub returns-in-Ok-clause-acts : goal.returns-in-Ok-clause-acts
returns-in-Ok-clause-acts c =
    opens c.args.image.now c.make.new.image c.args.debt.now.items c.clear.new.self.items c.args.log.now.items c.make.new.log.items c.args.session
    c.requires.done c.requires.accepted c.in-Ok.ensures.made c.in-Ok.ensures.log c.clear.ensures.items

use Rattle.jsp_house.proofs.Order.{covers_itself}
use Rattle.jsp_house.proofs.PerformingSteps.{own_legal, made_own}
use Rattle.jsp_house.proofs.performing.make_own.Goals as goal

pub returns-in_err-own-clause-stays : goal.returns-in_err-own-clause-stays
returns-in_err-own-clause-stays c = covers_itself c.args.debt.now.items

pub make_owing-requires-clause-legal : goal.make_owing-requires-clause-legal
make_owing-requires-clause-legal c =
    own_legal c.args.image.now c.args.debt.now.items c.args.step c.in_ok-own.own.step c.requires.may_come c.requires.done c.in_ok-own.ensures.same (rw c.state.ensures.state at c.in_ok-own.ensures.rows)

pub returns-clause-made : goal.returns-clause-made
returns-clause-made c =
    made_own c.args.image.now c.make_owing.new.image c.args.debt.now.items c.make_owing.new.debt.items c.args.log.now.items c.make_owing.new.log.items c.args.step c.in_ok-own.own.step c.make_owing.result
    c.requires.may_come c.in_ok-own.ensures.same
    (own_legal c.args.image.now c.args.debt.now.items c.args.step c.in_ok-own.own.step c.requires.may_come c.requires.done c.in_ok-own.ensures.same (rw c.state.ensures.state at c.in_ok-own.ensures.rows))
    c.make_owing.ensures.made c.make_owing.ensures.log c.make_owing.ensures.owes c.make_owing.ensures.stays c.make_owing.ensures.once

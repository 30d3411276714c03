use Rattle.jsp_house.proofs.HandingOut.{makes_hand_out}
use Rattle.jsp_house.proofs.answering.answer_within.Goals as goal

pub returns-clause-steps : goal.returns-clause-steps
returns-clause-steps c =
    let log = rw c.in_ok-reserve_places.ensures.items at c.enter.ensures.items in
    makes_hand_out c.args.image.now c.hand_out.new.image c.args.log.now.items c.enter.new.log.items c.args.session c.args.count c.requires.some c.requires.there c.in_ok-answers.ensures.ok log

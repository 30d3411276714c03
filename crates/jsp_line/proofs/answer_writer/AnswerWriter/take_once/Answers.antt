use Rattle.std.proofs.Common.{ap}
use Rattle.jsp_kept.specs.History.{Place}
use Rattle.jsp_line.proofs.Writing.{writer_put}
use Rattle.jsp_line.proofs.answer_writer.AnswerWriter.take_once.Goals as goal

pub invariant_of-self : goal.invariant_of-self
invariant_of-self g c =
    let received = c.receive.ensures in
    writer_put _ _ _ _ _ _ _ _ _ _ _ _ c.self.invariant (ap (λ (p : Place). p.count) c.take-said.ensures) received.put received.failed received.transcript received.room

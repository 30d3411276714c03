use Rattle.std.proofs.Common.{◌∙◌, Ok, ap}
use Rattle.jsp_kept.specs.History.{Place}
use Rattle.jsp_line.proofs.Writing.{writer_put}
use Rattle.jsp_line.proofs.answer_writer.AnswerWriter.act_and_take.Goals as goal

pub invariant_of-self : goal.invariant_of-self
invariant_of-self g c =
    let received = c.receive-received.ensures in
    writer_put _ _ _ _ _ _ _ _ _ _ _ _ c.self.invariant (ap (λ (p : Place). p.count) c.act_and_take-acted.ensures.outs) received.put received.failed received.transcript received.room

pub returns-in-Ok-NotYet-clause-not_yet : goal.returns-in-Ok-NotYet-clause-not_yet
returns-in-Ok-NotYet-clause-not_yet g c = c.act_and_take-acted.ensures.not_yet c.in-Ok-NotYet.input (c.in-Ok-NotYet.is ∙ ap (λ x. Ok x) c.in-Ok-NotYet.field-0-is)

pub invariant_of-self-2 : goal.invariant_of-self-2
invariant_of-self-2 g c =
    let received = c.receive-received.ensures in
    writer_put _ _ _ _ _ _ _ _ _ _ _ _ c.self.invariant (ap (λ (p : Place). p.count) c.act_and_take-acted.ensures.outs) received.put received.failed received.transcript received.room

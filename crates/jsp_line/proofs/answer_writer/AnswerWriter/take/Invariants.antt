use Rattle.std.proofs.Common.{◌≡◌}
use Rattle.jsp_line.proofs.answer_writer.AnswerWriter.take.Given as goal

abbrev pub invariant-loop : goal.invariant-loop
invariant-loop g l = l.self.seat.session ≡ l.initial.self.seat.session

use Rattle.std.proofs.Common.{◌≡◌}
use Rattle.jsp_line.proofs.answer_writer.add_answer.Given as goal

abbrev pub invariant-loop : goal.invariant-loop
invariant-loop g l = l.unwritten.items ≡ l.initial.unwritten.items

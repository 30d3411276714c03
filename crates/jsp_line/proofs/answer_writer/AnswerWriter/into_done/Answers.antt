use Rattle.std.proofs.Common.{◌≡◌, true, [], sym, subst}
use Rattle.jsp_line.specs.Writing.{Writer, is_sound}
use Rattle.jsp_line.proofs.Writing.{writer_done}
use Rattle.jsp_line.proofs.answer_writer.AnswerWriter.into_done.Goals as goal

pub returns-clause-writes : goal.returns-clause-writes
returns-clause-writes g c =
    writer_done _ _ _ _ _ _ _ c.self.invariant (subst (λ (h : Writer). is_sound h.health ≡ true → h.unwritten ≡ []) (sym c.self.view_is) c.requires)

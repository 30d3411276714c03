use Rattle.std.proofs.Common.{sym, ◌∙◌}
use Rattle.jsp_line.proofs.Writing.{writer_written}
use Rattle.jsp_line.proofs.answer_writer.AnswerWriter.write_all.Goals as goal

pub invariant_of-self : goal.invariant_of-self
invariant_of-self g c =
    let wrote = c.write_on-self-inside.ensures in
    writer_written _ _ _ _ _ _ _ _ _ _ _ _ c.self.invariant (sym c.is_sound.ensures ∙ c.if-not-is_sound.false) wrote.writes wrote.cleared

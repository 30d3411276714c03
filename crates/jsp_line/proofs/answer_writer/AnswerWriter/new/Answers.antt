use Rattle.std.proofs.Common.{ap, refl, ◌∙◌}
use Rattle.jsp_line.proofs.Writing.{writer_start}
use Rattle.jsp_line.proofs.answer_writer.AnswerWriter.new.Goals as goal

pub invariant_of-result : goal.invariant_of-result
invariant_of-result g c = writer_start _ _ _ _ _ _ _ c.requires.count (ap g.W.Write.contents c.new.ensures.inner ∙ c.requires.start) refl c.new-2.ensures.items c.new-3.ensures.bytes c.new-3.ensures.room

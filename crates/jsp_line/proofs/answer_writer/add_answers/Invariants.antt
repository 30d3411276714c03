use Rattle.std.proofs.Common.{◌≡◌, ◌++◌, take}
use Rattle.jsp_drive.specs.Bytes.{frames}
use Rattle.jsp_line.proofs.answer_writer.add_answers.Given as goal

abbrev pub invariant-loop-one : goal.invariant-loop-one
invariant-loop-one g l = l.unwritten.items ≡ l.initial.unwritten.items ++ frames (take l.one-index l.said)

use Rattle.std.proofs.Common.{◌≡◌, ◌≤◌, ◌-◌, length, take}
use Rattle.std.specs.Io.KnownBytes.{Appends}
use Rattle.jsp_line.proofs.answer_writer.write_out.Given as goal

abbrev pub invariant-writes : goal.invariant-writes
invariant-writes g l =
    (l.at ≤ length l.bytes)
    × Appends (g.W.Write.contents l.initial.writer.inner) (g.W.Write.contents l.writer.inner) (take l.at l.bytes)
    × (l.writer.failures ≡ l.initial.writer.failures)

abbrev pub decreases-writes : goal.decreases-writes
decreases-writes g l = length l.bytes - l.at

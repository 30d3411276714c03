use Rattle.std.proofs.Common.{length, take}
use Rattle.jsp_script.specs.Script.{lines_of, AreActsOf}
use Rattle.jsp_script.proofs.lines.read_acts.Given as goal

abbrev pub invariant-lines : goal.invariant-lines
invariant-lines l = AreActsOf (take (length l.yielded) (lines_of l.text)) l.acts.items

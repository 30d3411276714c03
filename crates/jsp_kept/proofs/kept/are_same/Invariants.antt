use Rattle.std.proofs.Common.{◌≡◌, take}
use Rattle.jsp_kept.proofs.kept.are_same.Given as goal

abbrev pub invariant-loop-i : goal.invariant-loop-i
invariant-loop-i l = take l.i l.ours ≡ take l.i l.others

use Rattle.std.proofs.Common.{◌≡◌, take, Some}
use Rattle.std.specs.Prelude.{option_map}
use Rattle.jsp_decided.specs.Decided.{row_after}
use Rattle.jsp_decided.specs.Left.{marks_of}
use Rattle.jsp_decided.proofs.after.left_after.Given as goal

abbrev pub invariant-recorded : goal.invariant-recorded
invariant-recorded l = option_map marks_of (row_after (take l.one-index l.recorded) l.row) ≡ Some l.left

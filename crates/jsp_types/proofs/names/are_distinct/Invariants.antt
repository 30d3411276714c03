use Rattle.std.proofs.Common.{◌≡◌, length}
use Rattle.jsp_types.specs.Classes.{are_distinct}
use Rattle.jsp_types.proofs.names.are_distinct.Given as goal

abbrev pub invariant-loop-left : goal.invariant-loop-left
invariant-loop-left g l = are_distinct l.left ≡ are_distinct l.fields

abbrev pub decreases-loop-left : goal.decreases-loop-left
decreases-loop-left g l = length l.left

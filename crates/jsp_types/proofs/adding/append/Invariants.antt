use Rattle.std.proofs.Common.{◌≡◌, ◌++◌, take}
use Rattle.jsp_types.proofs.adding.append.Given as goal

abbrev pub invariant-loop-field : goal.invariant-loop-field
invariant-loop-field l = l.fields ≡ l.fn.fields ++ take l.field-index l.more

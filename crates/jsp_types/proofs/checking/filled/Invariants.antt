use Rattle.std.proofs.Common.{◌≡◌, take}
use Rattle.jsp_types.specs.Checking.{filled}
use Rattle.jsp_types.proofs.checking.filled.Given as goal

abbrev pub invariant-loop-field : goal.invariant-loop-field
invariant-loop-field l = l.values ≡ filled (take l.field-index l.fields) l.given

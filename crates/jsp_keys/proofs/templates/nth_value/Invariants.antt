use Rattle.std.proofs.Common.{◌≡◌, [], take, drop}
use Rattle.std.specs.List.{slice_get}
use Rattle.jsp_keys.specs.Templates.{values_behind}
use Rattle.jsp_keys.proofs.templates.nth_value.Given as goal

abbrev pub invariant-fields : goal.invariant-fields
invariant-fields l = slice_get (values_behind (take l.at l.fields) (drop l.at l.fields)) l.left ≡ slice_get (values_behind [] l.fields) l.place

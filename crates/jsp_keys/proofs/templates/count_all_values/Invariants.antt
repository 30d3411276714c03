use Rattle.std.proofs.Common.{◌≡◌, ◌+◌, ◌≤◌, [], length, take, drop}
use Rattle.jsp_keys.specs.Templates.{values_behind}
use Rattle.jsp_keys.proofs.templates.count_all_values.Given as goal

abbrev pub invariant-fields : goal.invariant-fields
invariant-fields l = record {
  count : l.count + length (values_behind (take l.at l.fields) (drop l.at l.fields)) ≡ length (values_behind [] l.fields);
  few : l.count ≤ l.at;
}

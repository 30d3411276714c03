use Rattle.std.proofs.Common.{◌+◌, ◌∙◌, ap, take, drop}
use Rattle.std.specs.List.{slice_get}
use Rattle.jsp_keys.specs.Templates.{values_behind}
use Rattle.jsp_keys.proofs.Values.{value_found, value_passed, value_counted}
use Rattle.jsp_keys.proofs.templates.nth_value.Goals.{then-is_value+else-left-eq0, else-is_value}
use Rattle.jsp_keys.proofs.templates.nth_value.Goals as goal

pub returns-then-left-eq0 : goal.returns-then-left-eq0
returns-then-left-eq0 c =
    value_found c.args.fields.now c.fields.at c.fields.left c.args.place c.index-fields-at.result c.is_value.result c.fields-test.true c.index-fields-at.is c.is_value.ensures c.if-is_value.true c.if-left-eq0.true c.fields.invariant

pub fields-preserved : goal.fields-preserved
fields-preserved c = elim c.if-is_value.branch [
  | then-is_value+else-left-eq0 w ↦ ap (slice_get (values_behind (take (c.fields.at + 1) c.args.fields.now) (drop (c.fields.at + 1) c.args.fields.now))) w.left-is ∙ value_counted c.args.fields.now c.fields.at c.fields.left c.args.place c.index-fields-at.result c.is_value.result c.fields-test.true c.index-fields-at.is c.is_value.ensures w.if-is_value.true w.if-left-eq0.false c.fields.invariant
  | else-is_value w ↦ ap (slice_get (values_behind (take (c.fields.at + 1) c.args.fields.now) (drop (c.fields.at + 1) c.args.fields.now))) w.left-is ∙ value_passed c.args.fields.now c.fields.at c.fields.left c.args.place c.index-fields-at.result c.is_value.result c.fields-test.true c.index-fields-at.is c.is_value.ensures w.if-is_value.false c.fields.invariant
]

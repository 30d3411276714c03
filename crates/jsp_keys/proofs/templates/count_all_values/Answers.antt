use Rattle.std.proofs.Common.{arith}
use Rattle.jsp_keys.proofs.Values.{one_counted, none_counted}
use Rattle.jsp_keys.proofs.templates.count_all_values.Goals.{then-is_value, else-is_value}
use Rattle.jsp_keys.proofs.templates.count_all_values.Goals as goal

pub fields-preserved : goal.fields-preserved
fields-preserved c = elim c.if-is_value.branch [
  | then-is_value w ↦ record {
    count = omega (arith, c.fields.invariant.count, w.count-is, one_counted c.args.fields.now c.fields.at c.index-fields-at.result c.is_value.result c.fields-test.true c.index-fields-at.is c.is_value.ensures w.if-is_value.true);
    few = omega (arith, c.fields.invariant.few, w.count-is);
  }
  | else-is_value w ↦ record {
    count = omega (arith, c.fields.invariant.count, w.count-is, none_counted c.args.fields.now c.fields.at c.index-fields-at.result c.is_value.result c.fields-test.true c.index-fields-at.is c.is_value.ensures w.if-is_value.false);
    few = omega (arith, c.fields.invariant.few, w.count-is);
  }
]

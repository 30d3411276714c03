use Rattle.jsp_entries.proofs.Declaring.{kinded_more}
use Rattle.jsp_entries.proofs.declare.kinded.Goals as goal

pub fields-preserved : goal.fields-preserved
fields-preserved c = kinded_more c.args.fields.now c.fields.field-index c.field-item.result c.fields.found _ c.fields-test.true c.field-item.is c.fields.invariant c.in_ok-add_kinded.ensures

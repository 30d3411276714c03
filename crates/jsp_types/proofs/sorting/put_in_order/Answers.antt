-- The field goes where those before it end.
use Rattle.jsp_types.proofs.Placing.{placed}
use Rattle.jsp_types.proofs.sorting.put_in_order.Goals as goal

pub returns : goal.returns
returns c =
    placed c.args.field c.args.fields.now.items c.as_slice.result.now c.as_str.result.now c.count_before-place.result _ c.as_str.ensures c.as_slice.ensures.value c.count_before-place.ensures c.in_ok-insert.ensures.items

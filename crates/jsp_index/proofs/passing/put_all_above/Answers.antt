use Rattle.std.proofs.Common.{◌<◌}
use Rattle.jsp_model.specs.declared.state.Row.{Row}
use Rattle.jsp_index.specs.Starts.{start_at}
use Rattle.jsp_index.proofs.Heads.{over_more, one_at, le_le}
use Rattle.jsp_index.proofs.passing.put_all_above.Goals as goal

pub put_above-requires : goal.put_above-requires
put_above-requires c = one_at (λ (r : Row). 0 < r.number) c.args.rows.now c.rows.row-index c.row-item.result c.rows-test.true c.row-item.is c.requires

pub rows-preserved : goal.rows-preserved
rows-preserved c = record {
  down = λ u k. le_le (start_at u c.put_above.new.starts k) (start_at u c.rows.starts k) (start_at u c.args.starts.now k) (c.put_above.ensures.down u k) (c.rows.invariant.down u k);
  above = over_more c.args.seed c.rows.starts c.put_above.new.starts c.args.rows.now c.rows.row-index c.row-item.result c.rows-test.true c.row-item.is c.put_above.ensures.down c.put_above.ensures.above c.rows.invariant.above;
}

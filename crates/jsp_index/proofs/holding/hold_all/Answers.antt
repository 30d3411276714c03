use Rattle.jsp_index.proofs.Holders.{held_more}
use Rattle.jsp_index.proofs.holding.hold_all.Goals as goal

pub rows-preserved : goal.rows-preserved
rows-preserved c = record {
  held = held_more c.rows.holders c.hold.new.holders c.args.rows.now c.rows.row-index c.row-item.result c.rows-test.true c.row-item.is c.hold.ensures.keeps c.rows.invariant.held c.in_ok-hold.ensures.ok;
  keeps = λ x space n h. c.hold.ensures.keeps x space n (c.rows.invariant.keeps x space n h);
}

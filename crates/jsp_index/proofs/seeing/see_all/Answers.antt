use Rattle.jsp_index.proofs.Classes.{one_seen}
use Rattle.jsp_index.proofs.seeing.see_all.Goals as goal

pub rows-preserved : goal.rows-preserved
rows-preserved c = record {
  seen = one_seen c.rows.seen c.see.new.seen c.args.rows.now c.rows.row-index c.row-item.result c.rows-test.true c.row-item.is c.see.ensures.keeps c.in_ok-see.ensures.ok c.rows.invariant.seen;
  keeps = λ s k h. c.see.ensures.keeps s k (c.rows.invariant.keeps s k h);
}

use Rattle.std.proofs.Common.{eqb}
use Rattle.jsp_table.specs.Counts.{count_of}
use Rattle.jsp_index.proofs.Spaces.{in_next, one_more, room_at, room_stays, fits_next}
use Rattle.jsp_index.proofs.counting.count_all.Goals as goal

pub count_one_more-requires-clause-room : goal.count_one_more-requires-clause-room
count_one_more-requires-clause-room c = room_at c.rows.counts c.args.rows.now c.rows.row-index c.row-item.result c.rows-test.true c.row-item.is c.rows.invariant.room

pub count_one_more-requires-clause-fits : goal.count_one_more-requires-clause-fits
count_one_more-requires-clause-fits c =
    let space = c.row-item.result.space in
    fits_next space (count_of c.args.counts.now space) (count_of c.rows.counts space) c.args.rows.now c.rows.row-index c.rows-test.true (c.rows.invariant.counts space) (c.requires.fits space)

pub rows-preserved : goal.rows-preserved
rows-preserved c = record {
  room = room_stays c.rows.counts c.count_one_more.new.counts c.args.rows.now c.count_one_more.ensures.keeps c.rows.invariant.room;
  counts = λ k. one_more (eqb k c.row-item.result.space) _ _ _ _ _ (c.count_one_more.ensures.counts k) (c.rows.invariant.counts k) (in_next k c.args.rows.now c.rows.row-index c.row-item.result c.rows-test.true c.row-item.is);
}

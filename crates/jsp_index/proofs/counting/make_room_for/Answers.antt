use Rattle.std.proofs.Common.{◌∙◌}
use Rattle.jsp_index.proofs.Spaces.{one_more_room}
use Rattle.jsp_index.proofs.counting.make_room_for.Goals as goal

pub rows-preserved : goal.rows-preserved
rows-preserved c = record {
  room = one_more_room c.rows.counts c.make_room_for_count.new.counts c.args.rows.now c.rows.row-index c.row-item.result c.rows-test.true c.row-item.is c.make_room_for_count.ensures.keeps c.in_ok-make_room_for_count.ensures.ok c.rows.invariant.room;
  same = λ k. c.make_room_for_count.ensures.same k ∙ c.rows.invariant.same k;
}

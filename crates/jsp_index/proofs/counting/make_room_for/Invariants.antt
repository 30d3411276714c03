use Rattle.std.proofs.Common.{◌≡◌, ℕ, take}
use Rattle.jsp_table.specs.Counts.{count_of}
use Rattle.jsp_index.specs.Counted.{HaveRoom}
use Rattle.jsp_index.proofs.counting.make_room_for.Given as goal

abbrev pub invariant-rows : goal.invariant-rows
invariant-rows l = record {
  room : HaveRoom l.counts (take l.row-index l.rows);
  same : (space : ℕ) → count_of l.counts space ≡ count_of l.fn.counts space;
}

use Rattle.std.proofs.Common.{take}
use Rattle.jsp_index.specs.Seen.{AreSeen, KeepsSeen}
use Rattle.jsp_index.proofs.seeing.see_all.Given as goal

abbrev pub invariant-rows : goal.invariant-rows
invariant-rows l = record {
  seen : AreSeen l.seen (take l.row-index l.rows);
  keeps : KeepsSeen l.fn.seen l.seen;
}

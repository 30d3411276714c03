use Rattle.std.proofs.Common.{take}
use Rattle.jsp_index.specs.Holding.{Keeps, AreHeld}
use Rattle.jsp_index.proofs.holding.hold_all.Given as goal

abbrev pub invariant-rows : goal.invariant-rows
invariant-rows l = record {
  held : AreHeld l.holders (take l.row-index l.rows);
  keeps : Keeps l.fn.holders l.holders;
}

use Rattle.std.proofs.Common.{◌≡◌}
use Rattle.std.specs.List.{filter_map}
use Rattle.jsp_sight.specs.Deciding.{fate}
use Rattle.jsp_index.specs.Holding.{AreHeld}
use Rattle.jsp_index.proofs.deciding.apply_to_some.Given as goal

abbrev pub invariant-rows : goal.invariant-rows
invariant-rows l = record {
  held : AreHeld l.holders l.rows;
  same : filter_map (fate l.decision) l.rows ≡ filter_map (fate l.decision) l.fn.rows;
}

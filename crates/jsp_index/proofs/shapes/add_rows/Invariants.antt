use Rattle.std.proofs.Common.{List, ◌++◌, take}
use Rattle.jsp_model.specs.declared.state.Row.{Row}
use Rattle.jsp_index.specs.Shapes.{AreShaped}
use Rattle.jsp_index.proofs.shapes.add_rows.Given as goal

abbrev pub invariant-rows : goal.invariant-rows
invariant-rows l = (before : List Row) → AreShaped l.seed l.fn.shapes.items before → AreShaped l.seed l.shapes.items (before ++ take l.row-index l.rows)

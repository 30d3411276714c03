use Rattle.std.proofs.Common.{◌≡◌, map, take}
use Rattle.jsp_sight.specs.Rows.{taken_row}
use Rattle.jsp_index.proofs.revising.take_all.Given as goal

abbrev pub invariant-numbers : goal.invariant-numbers
invariant-numbers l = l.rows ≡ map (taken_row l.x (take l.number-index l.numbers)) l.fn.rows

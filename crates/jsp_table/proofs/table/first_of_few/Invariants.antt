use Rattle.std.proofs.Common.{◌≡◌, ◌-◌, ◌^◌}
use Rattle.std.specs.Prelude.{find}
use Rattle.jsp_table.specs.Finding.{is_hit}
use Rattle.jsp_table.proofs.table.first_of_few.Given as goal

abbrev pub invariant-numbers : goal.invariant-numbers
invariant-numbers g l = find (is_hit g.N.Numbering.number_of (g.P.Test.is_passed l.test) l.numbers l.last) l.table ≡ find (is_hit g.N.Numbering.number_of (g.P.Test.is_passed l.test) l.numbers l.after) l.table

abbrev pub decreases-numbers : goal.decreases-numbers
decreases-numbers g l = 2 ^ 64 - l.last

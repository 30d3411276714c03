use Rattle.std.proofs.Common.{◌≡◌, ℕ}
use Rattle.std.specs.Prelude.{find, filter}
use Rattle.jsp_table.specs.Finding.{is_hit}
use Rattle.jsp_table.proofs.Above.{is_over}
use Rattle.jsp_table.proofs.table.first_of_many.Given as goal

abbrev pub invariant-numbers : goal.invariant-numbers
invariant-numbers g l =
    let hit = is_hit g.N.Numbering.number_of (g.P.Test.is_passed l.test) l.numbers.keys in
    record {
      last : ℕ;
      left : l.number-iterator ≡ filter (is_over last) l.numbers.keys;
      same : find (hit last) l.table ≡ find (hit l.after) l.table;
    }

use Rattle.std.proofs.Common.{◌≡◌, ◌+◌, ◌-◌, ◌^◌, ◌≤◌, length}
use Rattle.std.specs.Prelude.{filter}
use Rattle.jsp_keyed.specs.Finding.{is_next}
use Rattle.jsp_keyed.proofs.keyed.Keyed.count.Given as goal

abbrev pub invariant-things : goal.invariant-things
invariant-things g l = record {
  sum : l.count + length (filter (is_next g.K.Numbering.number_of (g.P.Test.is_passed l.test) l.last) l.self) ≡ length (filter (g.P.Test.is_passed l.test) l.self);
  bound : l.count ≤ l.last;
}

abbrev pub decreases-things : goal.decreases-things
decreases-things g l = 2 ^ 64 - l.last

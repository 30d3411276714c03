use Rattle.std.proofs.Common.{◌≡◌, ℕ, ◌-◌, ◌^◌, ◌&&◌, true}
use Rattle.std.specs.List.{AllByRecursion}
use Rattle.jsp_table.specs.Numbers.{contains}
use Rattle.jsp_keyed.proofs.Gathering.{IsKnown}
use Rattle.jsp_keyed.proofs.passing.gather_named.Given as goal

abbrev pub invariant-things : goal.invariant-things
invariant-things g l =
    let num = g.K.Numbering.number_of in
    record {
      keeps : (m : ℕ) → contains l.fn.found m ≡ true → contains l.found m ≡ true;
      known : AllByRecursion (IsKnown num (λ x. contains l.numbers (num x) && g.P.Test.is_passed l.test x) (λ x. contains l.found (num x) ≡ true) l.last) l.table;
    }

abbrev pub decreases-things : goal.decreases-things
decreases-things g l = 2 ^ 64 - l.last

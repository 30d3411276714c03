use Rattle.std.proofs.Common.{◌≡◌, ℕ, true, take}
use Rattle.std.specs.List.{AllByRecursion, list_any}
use Rattle.jsp_table.specs.Numbers.{contains}
use Rattle.jsp_keyed.proofs.passing.gather_sought.Given as goal
use Rattle.jsp_table.specs.Hints.{names}

abbrev pub invariant-places : goal.invariant-places
invariant-places g l =
    let num = g.K.Numbering.number_of in
    record {
      keeps : (m : ℕ) → contains l.fn.found m ≡ true → contains l.found m ≡ true;
      known : AllByRecursion (λ x. g.P.Test.is_passed l.test x ≡ true → list_any (λ k. names l.hints k (num x)) (take l.place (g.P.Keys.sought l.test l.seed)) ≡ true → contains l.found (num x) ≡ true) l.table;
    }

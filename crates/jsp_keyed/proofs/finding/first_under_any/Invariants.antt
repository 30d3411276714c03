use Rattle.std.proofs.Common.{take, option_copied}
use Rattle.std.specs.List.{list_any}
use Rattle.jsp_table.specs.Hints.{names}
use Rattle.jsp_keyed.specs.Finding.{is_next, IsLeast}
use Rattle.jsp_keyed.proofs.finding.first_under_any.Given as goal

abbrev pub invariant-places : goal.invariant-places
invariant-places g l =
    let num = g.K.Numbering.number_of in
    IsLeast num (is_next num (g.P.Test.is_passed l.test) l.after) (λ x. list_any (λ k. names l.hints k (num x)) (take l.place (g.P.Keys.sought l.test l.seed))) l.table (option_copied l.first)

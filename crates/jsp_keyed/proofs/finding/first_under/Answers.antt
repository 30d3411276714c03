use Rattle.std.proofs.Common.{◌≡◌, Some, sym, subst, arith, rules}
use Rattle.std.proofs.lemmas.Grind.{common_steps}
use Rattle.jsp_table.specs.Hints.{list_of, names}
use Rattle.jsp_table.specs.Finding.{is_hit}
use Rattle.jsp_keyed.specs.Finding.{is_next, IsLeast}
use Rattle.jsp_keyed.proofs.Least.{found_least}
use Rattle.jsp_keyed.proofs.Named.{hit_passes, named_hits}
use Rattle.jsp_keyed.proofs.finding.first_under.Goals as goal

pub returns-in-Some : goal.returns-in-Some
returns-in-Some g c =
    let num = g.K.Numbering.number_of in
    let passed = g.P.Test.is_passed c.args.test.now in
    let after = c.args.after in
    let hints = c.args.hints.now in
    let ns = c.in-Some.numbers.now in
    let there : list_of hints c.args.key ≡ Some ns = first_of (search rules, grind (arith, common_steps)) in
    subst (IsLeast num (is_next num passed after) (λ x. names hints c.args.key (num x)) c.args.table.now) (sym c.first_above.ensures.found)
    (found_least num (is_next num passed after) (is_hit num passed ns after) (λ x. names hints c.args.key (num x)) c.args.table.now c.first_above.ensures.rising (hit_passes num passed ns after) (named_hits num passed ns after hints c.args.key there))

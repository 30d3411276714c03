use Rattle.std.proofs.Common.{◌≡◌, option_copied, ap, sym, ◌∙◌, subst}
use Rattle.std.specs.Prelude.{find}
use Rattle.jsp_table.specs.Finding.{is_hit, AreNumbered}
use Rattle.jsp_keyed.specs.Finding.{is_next, IsLeast}
use Rattle.jsp_keyed.proofs.Named.{hit_least}
use Rattle.jsp_keyed.proofs.keyed.Keyed.first_named.Goals as goal

pub returns-clause-least : goal.returns-clause-least
returns-clause-least g c kind named =
    let num = g.K.Numbering.number_of in
    let passed = g.P.Test.is_passed c.args.test.now in
    let after = c.args.after in
    let ns = c.args.numbers.now in
    let xs = c.args.self.now in
    let up : AreNumbered num xs = subst (AreNumbered num) c.self.view_is c.first_above.ensures.rising in
    let found : option_copied c.first_above.result ≡ find (is_hit num passed ns after) xs = c.first_above.ensures.found ∙ ap (find (is_hit num passed ns after)) c.self.view_is in
    subst (IsLeast num (is_next num passed after) kind xs) (sym found) (hit_least num passed ns after kind xs up named)

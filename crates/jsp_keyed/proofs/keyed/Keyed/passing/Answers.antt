use Rattle.std.proofs.Common.{◌≡◌, true, List, subst}
use Rattle.jsp_table.specs.Numbers.{contains}
use Rattle.jsp_table.specs.Finding.{AreNamed}
use Rattle.jsp_table.proofs.Finding.{both}
use Rattle.jsp_keyed.specs.Kept.{IsNamed}
use Rattle.jsp_keyed.specs.Several.{is_named_for}
use Rattle.jsp_keyed.proofs.Enough.{named_for}
use Rattle.jsp_keyed.proofs.keyed.Keyed.passing.Goals as goal

pub returns-clause-named : goal.returns-clause-named
returns-clause-named g c =
    let self = c.self.inside in
    let num = g.K.Numbering.number_of in
    let keys = g.K.Keying.keys_of in
    let test = c.args.test.now in
    let passed = g.P.Test.is_passed test in
    let classes = g.P.ByEntry.classes_of test in
    let space = g.P.ByEntry.space_of test in
    let e = g.P.ByEntry.entry_of test in
    let ns = c.gather_for.new.found in
    subst (λ (w : List g.row.T.Denot). AreNamed num passed ns w) c.self.view_is
    (both (λ x. IsNamed self.hints (num x) (keys self.seed x)) (λ x. passed x ≡ true → is_named_for self.hints self.seed classes space e (num x) ≡ true → contains ns (num x) ≡ true) (λ x. passed x ≡ true → contains ns (num x) ≡ true) self.table c.self.invariant.named c.in_ok-gather_for.ensures
    (λ x h known f. known f (named_for self.hints self.seed classes space e (num x) (keys self.seed x) h (c.requires self.seed x f))))

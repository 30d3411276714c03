use Rattle.std.proofs.Common.{List, option_copied, subst}
use Rattle.jsp_table.specs.Finding.{AreNumbered}
use Rattle.jsp_keyed.specs.Finding.{is_next, IsLeast}
use Rattle.jsp_keyed.specs.Kept.{IsNamed}
use Rattle.jsp_keyed.specs.Several.{is_named_for}
use Rattle.jsp_keyed.proofs.Least.{least_among, least_first}
use Rattle.jsp_keyed.proofs.Enough.{named_for}
use Rattle.jsp_keyed.proofs.Walking.{and_both}
use Rattle.jsp_keyed.proofs.keyed.Keyed.first_matching.Goals as goal

pub returns-clause-found : goal.returns-clause-found
returns-clause-found g c =
    let self = c.self.inside in
    let num = g.K.Numbering.number_of in
    let keys = g.K.Keying.keys_of in
    let test = c.args.test.now in
    let passed = g.P.Test.is_passed test in
    let p = is_next num passed c.args.after in
    let classes = g.P.ByEntry.classes_of test in
    let space = g.P.ByEntry.space_of test in
    let e = g.P.ByEntry.entry_of test in
    let found = option_copied c.first_for.result in
    let least = least_among num p (λ x. IsNamed self.hints (num x) (keys self.seed x)) (λ x. is_named_for self.hints self.seed classes space e (num x)) passed self.table found c.self.invariant.named
    (λ x h f. named_for self.hints self.seed classes space e (num x) (keys self.seed x) h (c.requires self.seed x f)) c.first_for.ensures in
    let here : IsLeast num p passed c.args.self.now found = subst (λ (w : List g.row.T.Denot). IsLeast num p passed w found) c.self.view_is least in
    least_first num p passed c.args.self.now found (subst (AreNumbered num) c.self.view_is c.places.ensures.rising) (λ x h. (and_both _ (passed x) h).1) here

use Rattle.std.proofs.Common.{List, option_copied, subst}
use Rattle.std.specs.List.{list_any}
use Rattle.jsp_table.specs.Hints.{names}
use Rattle.jsp_table.specs.Finding.{AreNumbered}
use Rattle.jsp_keyed.specs.Finding.{is_next, IsLeast}
use Rattle.jsp_keyed.specs.Kept.{IsNamed}
use Rattle.jsp_keyed.proofs.Least.{least_among, least_first}
use Rattle.jsp_keyed.proofs.Named.{sought_named}
use Rattle.jsp_keyed.proofs.Walking.{and_both}
use Rattle.jsp_keyed.proofs.keyed.Keyed.first_above.Goals as goal

pub returns-clause-found : goal.returns-clause-found
returns-clause-found g c =
    let self = c.self.inside in
    let num = g.K.Numbering.number_of in
    let keys = g.K.Keying.keys_of in
    let passed = g.P.Test.is_passed c.args.test.now in
    let p = is_next num passed c.args.after in
    let sought = g.P.Keys.sought c.args.test.now self.seed in
    let found = option_copied c.first_under_any.result in
    let least = least_among num p (λ x. IsNamed self.hints (num x) (keys self.seed x)) (λ x. list_any (λ k. names self.hints k (num x)) sought) passed self.table found c.self.invariant.named
    (λ x h e. sought_named self.hints (num x) (keys self.seed x) sought h (c.requires self.seed x e)) c.first_under_any.ensures in
    let here : IsLeast num p passed c.args.self.now found = subst (λ (w : List g.row.T.Denot). IsLeast num p passed w found) c.self.view_is least in
    least_first num p passed c.args.self.now found (subst (AreNumbered num) c.self.view_is c.places.ensures.rising) (λ x h. (and_both _ (passed x) h).1) here

use Rattle.std.proofs.Common.{◌≡◌, Some, None, List, ap, ◌∙◌, subst, arith, rules}
use Rattle.std.proofs.lemmas.Grind.{common_steps}
use Rattle.jsp_table.specs.Numbers.{contains}
use Rattle.jsp_table.specs.Finding.{AreNamed}
use Rattle.jsp_keyed.proofs.Named.{kind_among, kind_none}
use Rattle.jsp_keyed.proofs.keyed.Keyed.numbers_under.Goals as goal
use Rattle.jsp_table.specs.Hints.{list_of}

pub returns-in-None : goal.returns-in-None
returns-in-None g c kind have =
    let self = c.self.inside in
    let num = g.K.Numbering.number_of in
    let keys = g.K.Keying.keys_of self.seed in
    let none : list_of self.hints c.key-key.result ≡ None = first_of (search rules, grind (arith, common_steps)) in
    subst (λ (w : List g.row.T.Denot). AreNamed num kind self.none w) c.self.view_is
    (kind_none num keys self.hints c.key-key.result kind self.none self.table none (λ x k. ap (contains (keys x)) c.key-key.ensures ∙ have self.seed x k) c.self.invariant.named)

pub returns-in-Some : goal.returns-in-Some
returns-in-Some g c kind have =
    let self = c.self.inside in
    let num = g.K.Numbering.number_of in
    let keys = g.K.Keying.keys_of self.seed in
    let ns = c.in-Some.numbers.now in
    let there : list_of self.hints c.key-key.result ≡ Some ns = first_of (search rules, grind (arith, common_steps)) in
    subst (λ (w : List g.row.T.Denot). AreNamed num kind ns w) c.self.view_is
    (kind_among num keys self.hints c.key-key.result kind ns self.table there (λ x k. ap (contains (keys x)) c.key-key.ensures ∙ have self.seed x k) c.self.invariant.named)

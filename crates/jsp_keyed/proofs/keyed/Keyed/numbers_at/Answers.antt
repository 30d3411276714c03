use Rattle.std.proofs.Common.{◌≡◌, Some, None, List, sym, subst, arith, rules}
use Rattle.std.proofs.lemmas.Grind.{common_steps}
use Rattle.jsp_table.specs.Numbers.{contains}
use Rattle.jsp_table.specs.Finding.{AreNamed}
use Rattle.jsp_keyed.proofs.Named.{kind_among, kind_none}
use Rattle.jsp_keyed.proofs.keyed.Keyed.numbers_at.Goals as goal
use Rattle.jsp_table.specs.Hints.{list_of}

pub returns-in-None : goal.returns-in-None
returns-in-None g c =
    let self = c.self.inside in
    let num = g.K.Numbering.number_of in
    let same : c.args.seed ≡ self.seed = omega (arith, c.if-seed-self.false) in
    let keys = g.K.Keying.keys_of self.seed in
    let none : list_of self.hints c.args.key ≡ None = first_of (search rules, grind (arith, common_steps)) in
    let named : AreNamed num (λ x. contains (keys x) c.args.key) self.none self.table = kind_none num keys self.hints c.args.key (λ x. contains (keys x) c.args.key) self.none self.table none (λ x k. k) c.self.invariant.named in
    subst (λ (w : List g.row.T.Denot). AreNamed num (λ x. contains (g.K.Keying.keys_of c.args.seed x) c.args.key) self.none w) c.self.view_is
    (subst (λ s. AreNamed num (λ x. contains (g.K.Keying.keys_of s x) c.args.key) self.none self.table) (sym same) named)

pub returns-in-Some : goal.returns-in-Some
returns-in-Some g c =
    let self = c.self.inside in
    let num = g.K.Numbering.number_of in
    let same : c.args.seed ≡ self.seed = omega (arith, c.if-seed-self.false) in
    let keys = g.K.Keying.keys_of self.seed in
    let ns = c.in-Some.numbers.now in
    let there : list_of self.hints c.args.key ≡ Some ns = first_of (search rules, grind (arith, common_steps)) in
    let named : AreNamed num (λ x. contains (keys x) c.args.key) ns self.table = kind_among num keys self.hints c.args.key (λ x. contains (keys x) c.args.key) ns self.table there (λ x k. k) c.self.invariant.named in
    subst (λ (w : List g.row.T.Denot). AreNamed num (λ x. contains (g.K.Keying.keys_of c.args.seed x) c.args.key) ns w) c.self.view_is
    (subst (λ s. AreNamed num (λ x. contains (g.K.Keying.keys_of s x) c.args.key) ns self.table) (sym same) named)

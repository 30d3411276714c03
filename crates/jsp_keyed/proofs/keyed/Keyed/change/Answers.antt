use Rattle.std.proofs.Common.{List, sym, subst}
use Rattle.jsp_keyed.specs.Kept.{AreKeyed}
use Rattle.jsp_keyed.proofs.Altering.{one_changes}
use Rattle.jsp_keyed.proofs.keyed.Keyed.change.Goals as goal

pub change-requires : goal.change-requires
change-requires g c x = (c.requires x).number

pub invariant_of-self : goal.invariant_of-self
invariant_of-self g c =
    let self = c.self.inside in
    let num = g.K.Numbering.number_of in
    let keys = g.K.Keying.keys_of in
    let end = g.K.Keying.end_of in
    let rank = g.K.Keying.rank_of in
    subst (λ (w : List g.row.T.Denot). AreKeyed num keys end rank self.seed self.hints self.ends w) (sym c.change.ensures)
    (one_changes num keys end rank self.seed self.hints self.ends self.table (g.C.Change.changed c.args.change.now) c.args.number c.requires c.self.invariant)

use Rattle.std.proofs.Common.{List, ap, sym, subst}
use Rattle.jsp_lease.specs.Leases.{Leased}
use Rattle.jsp_keyed.specs.Kept.{AreKeyed}
use Rattle.jsp_keyed.proofs.Altering.{one_ends}
use Rattle.jsp_keyed.proofs.keyed.Keyed.set_end.Goals as goal

pub change-requires : goal.change-requires
change-requires g c x = (c.requires x).number

pub invariant_of-self : goal.invariant_of-self
invariant_of-self g c =
    let self = c.self.inside in
    let num = g.K.Numbering.number_of in
    let keys = g.K.Keying.keys_of in
    let end = g.K.Keying.end_of in
    let rank = g.K.Keying.rank_of in
    subst (λ (w : List g.row.T.Denot). AreKeyed num keys end rank self.seed self.hints c.set_end.new.self w) (sym c.change.ensures)
    (one_ends num keys end rank self.seed self.hints self.ends c.set_end.new.self self.table (g.C.Change.changed c.args.change.now) c.args.number c.args.end (ap (λ (l : Leased). l.items) c.set_end.ensures) c.requires c.self.invariant)

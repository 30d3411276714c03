use Rattle.std.proofs.Common.{List, sym, subst}
use Rattle.jsp_keyed.specs.Kept.{AreKeyed}
use Rattle.jsp_keyed.proofs.Keeping.{one_goes, found_has_it}
use Rattle.jsp_keyed.proofs.keyed.Keyed.remove.Goals as goal

pub forget_gone-requires : goal.forget_gone-requires
forget_gone-requires g c = found_has_it g.K.Numbering.number_of c.args.number c.self.inside.table c.remove-thing.result c.remove-thing.ensures.answer

pub invariant_of-self : goal.invariant_of-self
invariant_of-self g c =
    let self = c.self.inside in
    let num = g.K.Numbering.number_of in
    let keys = g.K.Keying.keys_of in
    let end = g.K.Keying.end_of in
    let rank = g.K.Keying.rank_of in
    subst (λ (w : List g.row.T.Denot). AreKeyed num keys end rank self.seed c.forget_gone.new.hints c.cancel.new.ends w) (sym c.remove-thing.ensures.left)
    (one_goes num keys end rank self.seed self.hints c.forget_gone.new.hints self.ends c.cancel.new.ends self.table c.args.number c.cancel.ensures c.forget_gone.ensures c.self.invariant)

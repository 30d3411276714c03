use Rattle.std.proofs.Common.{◌++◌, List, subst}
use Rattle.std.specs.Bool.{OnTrue}
use Rattle.jsp_table.specs.Finding.{AreNumbered}
use Rattle.jsp_keyed.proofs.Joining.{on_true, joined}
use Rattle.jsp_keyed.proofs.keyed.Keyed.may_append.Goals as goal

pub returns-then-is_above-clause-rising : goal.returns-then-is_above-clause-rising
returns-then-is_above-clause-rising g c =
    let num = g.K.Numbering.number_of in
    let xs = c.self.inside.table in
    let come = c.args.things.now in
    subst (λ (w : List g.row.T.Denot). OnTrue c.are_rising.result (AreNumbered num (w ++ come))) c.self.view_is
    (on_true c.are_rising.result (AreNumbered num come) (AreNumbered num (xs ++ come)) (λ up. joined num xs come c.first-item.result c.number.result c.in-len1-up.len_at_least c.first-item.is c.number.ensures c.places.ensures.rising c.if-is_above.ensures up) c.are_rising.ensures.rising)

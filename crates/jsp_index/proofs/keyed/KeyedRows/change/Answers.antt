use Rattle.std.proofs.Common.{sym, subst}
use Rattle.jsp_index.specs.Passed.{ArePassed}
use Rattle.jsp_index.proofs.Beside.{changed_beside}
use Rattle.jsp_index.proofs.Heads.{keys_kept, passed_changed, passed_still}
use Rattle.jsp_index.proofs.Covering.{same_keys}
use Rattle.jsp_index.specs.Shapes.{AreShaped}
use Rattle.jsp_index.proofs.Shaped.{shaped_changed}
use Rattle.jsp_index.proofs.keyed.KeyedRows.change.Goals as goal

pub change-requires : goal.change-requires
change-requires g c r = same_keys r (g.C.Change.changed c.args.change.now r) (c.requires r)

pub invariant_of-self : goal.invariant_of-self
invariant_of-self g c =
    let self = c.self.inside in
    let f = g.C.Change.changed c.args.change.now in
    let starts = c.put_number_above.new.starts in (
      changed_beside self.seen self.counts self.rows c.self.invariant.0 (g.C.Change.changed c.args.change.now) c.args.number c.change.new.self (λ r. (c.requires r).entry) (λ r. (c.requires r).space) c.change.ensures,
      (
        subst (ArePassed self.seed starts) (sym c.change.ensures) (passed_changed self.seed starts f c.args.number (λ r. (c.requires r).number) (λ r. keys_kept self.seed r (f r) (c.requires r)) self.rows c.put_number_above.ensures.above (passed_still self.seed self.starts starts self.rows c.put_number_above.ensures.down c.self.invariant.1.0)),
        subst (AreShaped self.seed self.shapes.list) (sym c.change.ensures) (shaped_changed self.seed self.shapes.list f c.args.number self.rows (λ r. (c.requires r).number) (λ r. (c.requires r).space) (λ r. (c.requires r).entry) c.self.invariant.1.1),
      ),
    )

use Rattle.std.proofs.Common.{Some, refl, sym, subst}
use Rattle.jsp_model.specs.declared.state.Row.{Row}
use Rattle.jsp_index.specs.Passed.{ArePassed}
use Rattle.jsp_index.proofs.Beside.{changed_beside}
use Rattle.jsp_index.proofs.Heads.{passed_kept, taken_open}
use Rattle.jsp_index.specs.Shapes.{AreShaped}
use Rattle.jsp_index.proofs.Shaped.{shaped_changed}
use Rattle.jsp_index.proofs.keyed.KeyedRows.take.Goals as goal

pub pass-requires : goal.pass-requires
pass-requires c =
    let self = c.self.inside in
    let taken : Row → Row = λ r. record r { taker = Some c.args.x } in
    subst (ArePassed self.seed self.starts) (sym c.change.ensures) (passed_kept self.seed self.starts taken c.args.number (λ r. refl) (λ r. refl) self.rows (taken_open c.args.x) c.self.invariant.1.0)

pub invariant_of-self : goal.invariant_of-self
invariant_of-self c =
    let self = c.self.inside in
    (changed_beside self.seen self.counts self.rows c.self.invariant.0 (λ (r : Row). record r { taker = Some c.args.x }) c.args.number c.change.new.self (λ r. refl) (λ r. refl) c.change.ensures, (c.pass.ensures, subst (AreShaped self.seed self.shapes.list) (sym c.change.ensures) (shaped_changed self.seed self.shapes.list (λ (r : Row). record r { taker = Some c.args.x }) c.args.number self.rows (λ r. refl) (λ r. refl) (λ r. refl) c.self.invariant.1.1)))

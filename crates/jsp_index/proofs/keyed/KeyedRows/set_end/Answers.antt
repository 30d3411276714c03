use Rattle.std.proofs.Common.{refl, sym, subst}
use Rattle.jsp_model.specs.declared.state.Row.{Row}
use Rattle.jsp_index.specs.Passed.{ArePassed}
use Rattle.jsp_index.proofs.Beside.{changed_beside}
use Rattle.jsp_index.proofs.Heads.{passed_kept, ending_open}
use Rattle.jsp_index.specs.Shapes.{AreShaped}
use Rattle.jsp_index.proofs.Shaped.{shaped_changed}
use Rattle.jsp_index.proofs.keyed.KeyedRows.set_end.Goals as goal

pub set_end-requires : goal.set_end-requires
set_end-requires c r = record { number = refl; keys = λ seed. refl; ends = refl }

pub invariant_of-self : goal.invariant_of-self
invariant_of-self c =
    let self = c.self.inside in
    let ending : Row → Row = λ r. record r { end = c.args.end } in (
      changed_beside self.seen self.counts self.rows c.self.invariant.0 ending c.args.number c.set_end.new.self (λ r. refl) (λ r. refl) c.set_end.ensures,
      (
        subst (ArePassed self.seed self.starts) (sym c.set_end.ensures) (passed_kept self.seed self.starts ending c.args.number (λ r. refl) (λ r. refl) self.rows (ending_open c.args.end) c.self.invariant.1.0),
        subst (AreShaped self.seed self.shapes.list) (sym c.set_end.ensures) (shaped_changed self.seed self.shapes.list ending c.args.number self.rows (λ r. refl) (λ r. refl) (λ r. refl) c.self.invariant.1.1),
      ),
    )

use Rattle.std.proofs.Common.{List, refl, sym, subst}
use Rattle.jsp_model.specs.declared.state.Row.{Row}
use Rattle.jsp_sight.specs.Rows.{with_reader}
use Rattle.jsp_index.specs.Beside.{IsBeside}
use Rattle.jsp_index.specs.Passed.{ArePassed}
use Rattle.jsp_index.proofs.Beside.{changed_beside}
use Rattle.jsp_index.proofs.Heads.{passed_kept, reader_open}
use Rattle.jsp_index.specs.Shapes.{AreShaped}
use Rattle.jsp_index.proofs.Shaped.{shaped_changed}
use Rattle.jsp_index.proofs.keyed.KeyedRows.read.Goals as goal

pub pass-requires : goal.pass-requires
pass-requires c =
    let self = c.self.inside in
    let read : Row → Row = λ r. with_reader c.args.x r in
    subst (ArePassed self.seed self.starts) (sym c.in_ok-try_change.ensures.ok) (passed_kept self.seed self.starts read c.args.number (λ r. refl) (λ r. refl) self.rows (reader_open c.args.x) c.self.invariant.1.0)

pub invariant_of-self : goal.invariant_of-self
invariant_of-self c =
    let self = c.self.inside in
    subst (λ (w : List Row). IsBeside self.seen self.counts w × (ArePassed self.seed self.starts w × AreShaped self.seed self.shapes.list w)) (sym c.in_err-try_change.ensures.err) c.self.invariant

pub invariant_of-self-2 : goal.invariant_of-self-2
invariant_of-self-2 c =
    let self = c.self.inside in
    (changed_beside self.seen self.counts self.rows c.self.invariant.0 (λ (r : Row). with_reader c.args.x r) c.args.number c.try_change.new.self (λ r. refl) (λ r. refl) c.in_ok-try_change.ensures.ok, (c.pass.ensures, subst (AreShaped self.seed self.shapes.list) (sym c.in_ok-try_change.ensures.ok) (shaped_changed self.seed self.shapes.list (λ (r : Row). with_reader c.args.x r) c.args.number self.rows (λ r. refl) (λ r. refl) (λ r. refl) c.self.invariant.1.1)))

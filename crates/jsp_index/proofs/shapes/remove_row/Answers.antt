use Rattle.std.proofs.Common.{◌≡◌, List, length, drop, not, eqb, sym, subst, arith, rules}
use Rattle.std.specs.Prelude.{filter}
use Rattle.std.proofs.lemmas.Grind.{common_steps}
use Rattle.jsp_model.specs.declared.state.Row.{Row}
use Rattle.jsp_index.specs.declared.shape.Shape.{Shape}
use Rattle.jsp_index.specs.Shapes.{AreShaped}
use Rattle.jsp_index.proofs.Shaped.{front, one_left}
use Rattle.jsp_index.proofs.shapes.remove_row.Goals as goal

pub returns : goal.returns
returns c rows h =
    let n = c.args.row.now.number in
    let new = c.remove_from_all.new.shapes in
    let left : List Row = filter (λ (r : Row). not (eqb r.number n)) rows in
    let before : AreShaped c.args.seed c.as_mut_slice.result.now rows = search rules in
    let after : AreShaped c.args.seed new left = one_left c.args.seed c.as_mut_slice.result.now new n rows c.remove_from_all.ensures before in
    let same : length new ≡ c.args.shapes.now.len = first_of (omega arith, search rules, grind (arith, common_steps)) in
    subst (λ (w : List Shape). AreShaped c.args.seed w left) (sym (front c.args.shapes.now.len new (drop (length new) c.args.shapes.now.items) same)) after

use Rattle.std.proofs.Common.{◌≡◌, eqb, false}
use Rattle.jsp_model.specs.declared.state.Row.{Row}
use Rattle.jsp_index.specs.Shapes.{IsNamedByAll}
use Rattle.jsp_index.proofs.shapes.remove_from_all.Given as goal

abbrev pub invariant-shapes : goal.invariant-shapes
invariant-shapes l = (r : Row) → eqb r.number l.row.number ≡ false → IsNamedByAll l.seed l.initial.shapes r → IsNamedByAll l.seed l.shapes r

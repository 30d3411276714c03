use Rattle.std.proofs.Common.{◌≡◌, take, length}
use Rattle.std.specs.List.{AllByRecursion}
use Rattle.jsp_model.specs.declared.state.Row.{Row}
use Rattle.jsp_index.specs.Shapes.{IsNamedBy, IsNamedByAll}
use Rattle.jsp_index.proofs.shapes.add_to_all.Given as goal

abbrev pub invariant-shapes : goal.invariant-shapes
invariant-shapes l = record {
  named : AllByRecursion (IsNamedBy l.seed l.row) (take l.shape-index l.shapes);
  keeps : (r : Row) → IsNamedByAll l.seed l.initial.shapes r → IsNamedByAll l.seed l.shapes r;
}

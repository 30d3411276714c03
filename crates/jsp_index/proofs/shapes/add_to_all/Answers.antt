use Rattle.std.proofs.Common.{◌<◌, length, arith}
use Rattle.jsp_index.specs.Shapes.{IsNamedBy}
use Rattle.jsp_index.proofs.Shaped.{all_set, all_at, taken_set}
use Rattle.jsp_index.proofs.shapes.add_to_all.Goals as goal

pub shapes-preserved : goal.shapes-preserved
shapes-preserved c = record {
  named = taken_set (IsNamedBy c.args.seed c.args.row.now) _ _ _ c.shapes.invariant.named c.add.ensures.named;
  keeps = λ r h.
      let lt : c.shapes.shape-index < length c.shapes.shapes = omega arith in
      let now = c.shapes.invariant.keeps r h in
      all_set (IsNamedBy c.args.seed r) _ _ _ now (c.add.ensures.keeps r (all_at (IsNamedBy c.args.seed r) _ _ _ lt now));
}

use Rattle.std.proofs.Common.{◌<◌, length, arith}
use Rattle.jsp_index.specs.Shapes.{IsNamedBy}
use Rattle.jsp_index.proofs.Shaped.{all_set, all_at}
use Rattle.jsp_index.proofs.shapes.remove_from_all.Goals as goal

pub shapes-preserved : goal.shapes-preserved
shapes-preserved c r other h =
    let lt : c.shapes.shape-index < length c.shapes.shapes = omega arith in
    let now = c.shapes.invariant r other h in
    all_set (IsNamedBy c.args.seed r) _ _ _ now (c.remove.ensures r other (all_at (IsNamedBy c.args.seed r) _ _ _ lt now))

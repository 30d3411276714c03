use Rattle.std.proofs.Common.{◌<◌, length, sym, subst, arith}
use Rattle.jsp_index.specs.declared.shape.Shape.{Shape}
use Rattle.jsp_index.specs.Shapes.{IsShaped}
use Rattle.jsp_index.proofs.Shaped.{shaped_at, shaped_set}
use Rattle.jsp_index.proofs.shapes.learn_at.Goals as goal

pub returns-then-place-len : goal.returns-then-place-len
returns-then-place-len c h =
    let seed = c.args.seed in
    let shapes = c.args.shapes.now.items in
    let rows = c.args.rows.now in
    let old = c.index_mut.result.now in
    let lt : c.args.place < length shapes = omega (arith, c.if-place-len.true, c.len.ensures) in
    let was : IsShaped seed old rows = subst (λ (w : Shape). IsShaped seed w rows) (sym c.index_mut.ensures.value) (shaped_at seed shapes rows c.args.place old lt h) in
    shaped_set seed shapes rows c.args.place c.learn.new.self h (c.learn.ensures was)

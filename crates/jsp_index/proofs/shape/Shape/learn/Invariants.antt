use Rattle.jsp_index.specs.Shapes.{IsShaped}
use Rattle.jsp_index.proofs.shape.Shape.learn.Given as goal

abbrev pub invariant-rows : goal.invariant-rows
invariant-rows l = IsShaped l.seed l.fn.self l.rows → IsShaped l.seed l.self l.rows

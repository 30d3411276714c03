use Rattle.jsp_index.proofs.Shaped.{none_learned}
use Rattle.jsp_index.proofs.shape.Shape.new.Goals as goal

pub returns : goal.returns
returns c seed r learned k is = absurd (none_learned c.args.space r learned)

use Rattle.std.proofs.Common.{◌∙◌, eqb}
use Rattle.jsp_model.specs.declared.state.Blocked.{Blocked}
use Rattle.jsp_wait.proofs.Counting.{count_living}
use Rattle.jsp_wait.proofs.keyed.count_waiting_at.Goals as goal

pub returns : goal.returns
returns c = c.count_places_at.ensures ∙ count_living (λ (b : Blocked). eqb b.space c.args.space) c.args.places.now

use Rattle.std.proofs.Common.{◌∙◌, ap}
use Rattle.jsp_model.specs.declared.state.State.{State}
use Rattle.jsp_model.specs.Sight.{has_conflict}
use Rattle.jsp_state.proofs.sight.has_conflict.Goals as goal

pub returns : goal.returns
returns c = c.has_conflict.ensures ∙ ap (λ (st : State). has_conflict st c.args.blocked.now) c.state.view_is

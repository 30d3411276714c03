use Rattle.std.proofs.Common.{length, ◌∙◌, ap}
use Rattle.std.specs.Prelude.{◌==◌}
use Rattle.jsp_model.specs.declared.state.State.{State}
use Rattle.jsp_model.specs.Sight.{available}
use Rattle.jsp_state.proofs.sight.has_none.Goals as goal

pub returns : goal.returns
returns c = c.has_none.ensures ∙ ap (λ (st : State). length (available st c.args.blocked.now) == 0) c.state.view_is

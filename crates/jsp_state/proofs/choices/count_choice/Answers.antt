use Rattle.std.proofs.Common.{◌∙◌, ap, length}
use Rattle.std.specs.Prelude.{min}
use Rattle.jsp_model.specs.declared.state.State.{State}
use Rattle.jsp_model.specs.Sight.{available}
use Rattle.jsp_state.proofs.choices.count_choice.Goals as goal

pub returns : goal.returns
returns c = c.count_choice.ensures ∙ ap (λ (st : State). min c.args.blocked.now.most (length (available st c.args.blocked.now))) c.state.view_is

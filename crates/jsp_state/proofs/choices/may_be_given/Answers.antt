use Rattle.std.proofs.Common.{◌∙◌, ap}
use Rattle.jsp_model.specs.Lookup.{contains}
use Rattle.jsp_model.specs.declared.state.State.{State}
use Rattle.jsp_model.specs.Sight.{available}
use Rattle.jsp_state.proofs.choices.may_be_given.Goals as goal

pub returns : goal.returns
returns c = c.may_be_given.ensures ∙ ap (λ (st : State). contains (available st c.args.blocked.now) c.args.number) c.state.view_is

use Rattle.std.proofs.Common.{◌∙◌, ap, take}
use Rattle.std.proofs.lemmas.Result.{IfOk-weaker}
use Rattle.jsp_model.specs.declared.state.State.{State}
use Rattle.jsp_model.specs.Sight.{available}
use Rattle.jsp_state.proofs.choices.choose.Goals as goal

pub returns : goal.returns
returns c = IfOk-weaker c.choose.result _ _ (λ ns h. h ∙ ap (λ (st : State). take c.args.blocked.now.most (available st c.args.blocked.now)) c.state.view_is) c.choose.ensures

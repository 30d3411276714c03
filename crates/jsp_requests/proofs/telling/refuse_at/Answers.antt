use Rattle.std.proofs.Common.{◌∙◌, ap}
use Rattle.std.proofs.lemmas.Result.{IfOk-weaker}
use Rattle.jsp_model.specs.declared.state.State.{State}
use Rattle.jsp_requests.specs.Telling.{at_space_refused}
use Rattle.jsp_requests.proofs.Refusing.{each_is_refused}
use Rattle.jsp_requests.proofs.telling.refuse_at.Goals as goal

pub returns : goal.returns
returns c =
    IfOk-weaker c.refuse_each.result _ _
    (λ v h. each_is_refused _ _ _ v.items (c.as_slice.ensures.value ∙ c.in_ok-askers.ensures) h ∙ ap (λ (st : State). at_space_refused c.args.space st.blocked) c.state.view_is) c.refuse_each.ensures

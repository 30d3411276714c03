use Rattle.std.proofs.Common.{◌∙◌, ap}
use Rattle.jsp_lease.specs.Due.{first_item, over_by}
use Rattle.jsp_model.specs.declared.state.State.{State}
use Rattle.jsp_model.specs.Due.{due, items}
use Rattle.jsp_state.proofs.ends.due.Goals as goal

pub returns : goal.returns
unfolding due
returns c = c.first_end.ensures ∙ ap (λ (st : State). first_item (over_by st.time (items c.args.state.now))) c.state.view_is

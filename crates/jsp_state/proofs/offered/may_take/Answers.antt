use Rattle.std.proofs.Common.{◌∙◌, ap, false}
use Rattle.std.specs.Prelude.{find, ◌==◌}
use Rattle.std.specs.Option.{option_map_or}
use Rattle.jsp_model.specs.declared.state.State.{State}
use Rattle.jsp_model.specs.declared.state.Row.{Row}
use Rattle.jsp_model.specs.Sight.{is_available}
use Rattle.jsp_state.proofs.offered.may_take.Goals as goal

pub returns : goal.returns
returns c =
    c.is_available.ensures
    ∙ ap (λ (st : State). option_map_or (is_available st c.args.request.now) (find (λ (r : Row). r.number == c.args.number) st.rows) false) c.state.view_is

use Rattle.std.proofs.Common.{◌∙◌, ap, sym, flat_map}
use Rattle.std.proofs.lemmas.Result.{IfOk-weaker}
use Rattle.jsp_model.specs.Lookup.{named}
use Rattle.jsp_model.specs.Touches.{ask_touches, lease_touches}
use Rattle.jsp_machine.proofs.touching.ask_touches.Goals as goal

pub returns-in-RenewAll : goal.returns-in-RenewAll
returns-in-RenewAll c =
    IfOk-weaker c.renewals_touch.result _ _
    (λ v h. h ∙ ap (flat_map (λ l. lease_touches c.args.state.now (named l.0))) c.as_slice.ensures ∙ ap (ask_touches c.args.state.now) (sym c.in-RenewAll.is))
    c.renewals_touch.ensures

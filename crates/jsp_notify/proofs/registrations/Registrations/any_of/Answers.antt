use Rattle.std.proofs.Common.{◌∙◌, ◌&&◌, ap}
use Rattle.std.specs.Prelude.{◌==◌}
use Rattle.std.specs.List.{list_any}
use Rattle.jsp_model.specs.declared.state.Registration.{Registration}
use Rattle.jsp_notify.proofs.Asked.{passing_after}
use Rattle.jsp_notify.proofs.registrations.Registrations.any_of.Goals as goal

pub returns : goal.returns
returns g c =
    let self = c.self.inside.listeners in
    let passes = g.P.Test.is_passed c.args.test.now in
    c.any_of.ensures
    ∙ (passing_after self.news c.args.number passes (λ owed r. c.requires owed r) self.heard ∙ ap (list_any (λ (r : Registration). r.number == c.args.number && passes r)) c.self.view_is)

use Rattle.std.proofs.Common.{◌∙◌, List, length, ap}
use Rattle.std.specs.Prelude.{filter, ◌==◌}
use Rattle.jsp_model.specs.declared.state.Registration.{Registration}
use Rattle.jsp_notify.proofs.Asked.{counted_after}
use Rattle.jsp_notify.proofs.registrations.Registrations.count_in.Goals as goal

pub returns : goal.returns
returns c =
    let self = c.self.inside.listeners in
    c.count_in.ensures ∙ (counted_after self.news c.args.space self.heard ∙ ap (λ (rs : List Registration). length (filter (λ r. r.space == c.args.space) rs)) c.self.view_is)

use Rattle.std.proofs.Common.{◌∙◌, List, map, ap}
use Rattle.jsp_lease.specs.Due.{first_item, over_by}
use Rattle.jsp_model.specs.declared.state.Registration.{Registration}
use Rattle.jsp_notify.specs.Registered.{registration_end}
use Rattle.jsp_notify.proofs.Asked.{ends_after}
use Rattle.jsp_notify.proofs.registrations.Registrations.due.Goals as goal

pub returns : goal.returns
returns c =
    let self = c.self.inside.listeners in
    c.due.ensures ∙ (ap (λ items. first_item (over_by c.args.time items)) (ends_after self.news self.heard) ∙ ap (λ (rs : List Registration). first_item (over_by c.args.time (map registration_end rs))) c.self.view_is)

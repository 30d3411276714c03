use Rattle.std.proofs.Common.{◌∙◌, Bool, not, map, ap, refl}
use Rattle.std.specs.Prelude.{filter, ◌==◌}
use Rattle.jsp_model.specs.declared.state.Registration.{Registration}
use Rattle.jsp_notify.specs.News.{hearing}
use Rattle.jsp_notify.proofs.Asked.{left_out}
use Rattle.jsp_notify.proofs.registrations.Registrations.remove_of.Goals as goal

pub returns : goal.returns
returns c =
    let stays : Registration → Bool = λ r. not (r.session == c.args.session) in
    let self = c.self.inside.listeners in
    ap (map (hearing self.news)) c.remove_of.ensures ∙ (left_out self.news stays (λ owed r. refl) self.heard ∙ ap (filter stays) c.self.view_is)

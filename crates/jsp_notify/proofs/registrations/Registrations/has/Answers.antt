use Rattle.std.proofs.Common.{◌∙◌, ap, sym}
use Rattle.std.specs.Prelude.{◌==◌}
use Rattle.std.specs.List.{list_any}
use Rattle.jsp_model.specs.declared.state.Registration.{Registration}
use Rattle.jsp_notify.specs.News.{hearing}
use Rattle.jsp_notify.proofs.Hearing.{any_after}
use Rattle.jsp_notify.proofs.registrations.Registrations.has.Goals as goal

pub returns : goal.returns
returns c =
    let self = c.self.inside.listeners in
    c.has.ensures ∙ (sym (any_after (hearing self.news) (λ (r : Registration). r.number == c.args.number) self.heard) ∙ ap (list_any (λ (r : Registration). r.number == c.args.number)) c.self.view_is)

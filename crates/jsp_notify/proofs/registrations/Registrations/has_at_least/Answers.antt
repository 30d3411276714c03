use Rattle.std.proofs.Common.{◌∙◌, List, length, ap, sym}
use Rattle.std.specs.Prelude.{nat_le}
use Rattle.std.proofs.lemmas.List.{length-map}
use Rattle.jsp_model.specs.declared.state.Registration.{Registration}
use Rattle.jsp_notify.specs.News.{hearing}
use Rattle.jsp_notify.proofs.registrations.Registrations.has_at_least.Goals as goal

pub returns : goal.returns
returns c =
    let self = c.self.inside.listeners in
    c.has_at_least.ensures ∙ (ap (nat_le c.args.count) (sym (length-map self.heard (hearing self.news))) ∙ ap (λ (rs : List Registration). nat_le c.args.count (length rs)) c.self.view_is)

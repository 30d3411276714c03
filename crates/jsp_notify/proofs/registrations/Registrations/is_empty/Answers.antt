use Rattle.std.proofs.Common.{◌∙◌, List, length, ap, sym}
use Rattle.std.specs.Prelude.{◌==◌}
use Rattle.std.proofs.lemmas.List.{length-map}
use Rattle.jsp_model.specs.declared.state.Registration.{Registration}
use Rattle.jsp_notify.specs.News.{hearing}
use Rattle.jsp_notify.proofs.registrations.Registrations.is_empty.Goals as goal

pub returns : goal.returns
returns c =
    let self = c.self.inside.listeners in
    c.is_empty.ensures ∙ (ap (λ n. n == 0) (sym (length-map self.heard (hearing self.news))) ∙ ap (λ (rs : List Registration). length rs == 0) c.self.view_is)

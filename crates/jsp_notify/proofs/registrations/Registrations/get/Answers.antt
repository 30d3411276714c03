use Rattle.std.proofs.Common.{◌∙◌, List, option_map, ap}
use Rattle.std.specs.Prelude.{find, ◌==◌}
use Rattle.jsp_model.specs.declared.state.Registration.{Registration}
use Rattle.jsp_notify.specs.News.{without_owed}
use Rattle.jsp_notify.proofs.Asked.{found_after}
use Rattle.jsp_notify.proofs.registrations.Registrations.get.Goals as goal

pub returns : goal.returns
returns c =
    let self = c.self.inside.listeners in
    ap (option_map without_owed) c.get.ensures
    ∙ (found_after self.news c.args.number self.heard ∙ ap (λ (rs : List Registration). option_map without_owed (find (λ r. r.number == c.args.number) rs)) c.self.view_is)

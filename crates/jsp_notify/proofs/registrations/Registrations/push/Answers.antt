use Rattle.std.proofs.Common.{◌∙◌, ◌++◌, ◌∷◌, [], List, map, ap}
use Rattle.jsp_model.specs.declared.state.Registration.{Registration}
use Rattle.jsp_notify.specs.News.{hearing}
use Rattle.jsp_notify.proofs.Told.{one_more_heard}
use Rattle.jsp_notify.proofs.registrations.Registrations.push.Goals as goal

pub returns-clause-ok : goal.returns-clause-ok
returns-clause-ok c =
    let self = c.self.inside.listeners in
    let news = c.tell_all_in.new.news in
    let one = c.args.registration in
    ap (map (hearing news)) c.in_ok-push.ensures.ok
    ∙ (one_more_heard self.news news self.heard c.tell_all_in.new.heard one c.tell_all_in.ensures.same c.in_ok-tell_all_in.ensures.all
    ∙ ap (λ (rs : List Registration). rs ++ one ∷ []) c.self.view_is)

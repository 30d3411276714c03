use Rattle.std.proofs.Common.{◌∙◌, map, ap}
use Rattle.jsp_notify.specs.Owing.{owed}
use Rattle.jsp_notify.specs.News.{hearing}
use Rattle.jsp_notify.proofs.Hearing.{recorded}
use Rattle.jsp_notify.proofs.registrations.Registrations.record_news.Goals as goal

pub returns-clause-ok : goal.returns-clause-ok
returns-clause-ok c =
    let self = c.self.inside.listeners in
    let news = c.args.news in
    ap (λ ns. map (hearing ns) self.heard) c.in_ok-push.ensures.ok
    ∙ (recorded self.news news c.requires.untold c.requires.unreached self.heard ∙ ap (map (owed news.classes news.caller news.rows)) c.self.view_is)

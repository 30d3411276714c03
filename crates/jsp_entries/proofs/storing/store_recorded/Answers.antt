use Rattle.std.proofs.Common.{◌∙◌, List, map, ap}
use Rattle.jsp_model.specs.declared.state.Registration.{Registration}
use Rattle.jsp_notify.specs.declared.news.News.{News}
use Rattle.jsp_notify.specs.News.{hearing}
use Rattle.jsp_entries.proofs.storing.store_recorded.Goals as goal

pub returns-clause-owed_stay : goal.returns-clause-owed_stay
returns-clause-owed_stay c =
    let listeners = c.args.listeners.now in
    let news = c.forget_last.ensures.news ∙ c.in_ok-record.ensures.last in
    let heard = c.forget_last.ensures.heard ∙ c.record.ensures.heard in
    ap (λ (ns : List News). map (hearing ns) c.forget_last.new.self.heard) news ∙ ap (λ (rs : List Registration). map (hearing listeners.news) rs) heard

use Rattle.std.proofs.Common.{◌∙◌, ℕ, List, map, ap}
use Rattle.std.specs.Prelude.{Option}
use Rattle.jsp_types.specs.declared.class.Class.{Class}
use Rattle.jsp_model.specs.declared.state.Row.{Row}
use Rattle.jsp_notify.specs.Owing.{owed}
use Rattle.jsp_notify.specs.News.{hearing}
use Rattle.jsp_notify.specs.Hearing.{all_of}
use Rattle.jsp_notify.proofs.Hearing.{recorded}
use Rattle.jsp_notify.proofs.listeners.Listeners.record.Goals as goal

pub returns-clause-ok : goal.returns-clause-ok
returns-clause-ok c =
    let self = c.args.self.now in
    let news = c.in_ok-news.news in
    let made = c.in_ok-news.ensures in
    ap (λ ns. map (hearing ns) self.heard) c.in_ok-push.ensures.ok
    ∙ (recorded self.news news made.untold made.unreached self.heard
    ∙ (ap (λ (classes : List Class). map (owed classes news.caller news.rows) (all_of self)) made.classes
    ∙ (ap (λ (caller : Option ℕ). map (owed c.args.classes.now caller news.rows) (all_of self)) made.caller
    ∙ ap (λ (rows : List Row). map (owed c.args.classes.now c.args.caller rows) (all_of self)) (made.rows ∙ c.in_ok-copies.ensures))))

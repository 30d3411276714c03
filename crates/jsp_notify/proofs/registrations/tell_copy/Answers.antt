use Rattle.std.proofs.Common.{◌∙◌, ◌++◌, ◌∷◌, [], take, ap, sym}
use Rattle.std.proofs.lemmas.List.{take_more}
use Rattle.jsp_notify.specs.declared.news.News.{News}
use Rattle.jsp_notify.specs.News.{hearing}
use Rattle.jsp_notify.proofs.Hearing.{heard_in_parts, none_heard, one_heard}
use Rattle.jsp_notify.proofs.registrations.tell_copy.Goals as goal

pub news-init : goal.news-init
news-init c = sym (none_heard c.args.copy.now)

pub news-preserved : goal.news-preserved
news-preserved c =
    let news = c.args.news.now in
    let one = c.one-item.result in
    let first = take c.news.one-index news in
    c.in_ok-tell_copy.ensures
    ∙ (sym (one_heard one c.news.copy)
    ∙ (ap (hearing (one ∷ [])) c.news.invariant
    ∙ sym (ap (λ ns. hearing ns c.args.copy.now) (take_more news c.news.one-index one c.news-test.true ∙ ap (λ (n : News). first ++ n ∷ []) (sym c.one-item.is)) ∙ heard_in_parts first (one ∷ []) c.args.copy.now)))

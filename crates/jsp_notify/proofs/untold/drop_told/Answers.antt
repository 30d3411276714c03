use Rattle.std.proofs.Common.{◌≡◌, ◌∙◌, ◌<◌, ◌==◌, List, length, true, false, drop, get_or, ap, sym}
use Rattle.std.specs.List.{list_all}
use Rattle.jsp_notify.specs.declared.news.News.{News}
use Rattle.jsp_notify.specs.News.{is_told}
use Rattle.jsp_notify.proofs.Told.{head_dropped, some_left}
use Rattle.jsp_notify.proofs.untold.drop_told.Goals as goal

pub news-preserved : goal.news-preserved
news-preserved c =
    let n = c.index-as_slice-0.result in
    let is : n ≡ get_or c.news.news 0 n = c.index-as_slice-0.is ∙ ap (λ (ns : List News). get_or ns 0 n) c.as_slice-in-news.ensures in
    let told : list_all (λ row. is_told row.space n) n.rows ≡ true = sym c.is_told_everywhere.ensures ∙ c.if-not-is_told_everywhere.false in
    let some : (length c.news.news == 0) ≡ false = ap (λ (ns : List News). length ns == 0) (sym c.as_slice.ensures) ∙ (sym c.is_empty.ensures ∙ c.news-test.true) in
    head_dropped c.news.news n _ (some_left (length c.news.news) some) is told (c.remove-told.ensures.items ∙ ap (drop 1) c.news-in-news.view_is) c.args.heard.now ∙ c.news.invariant

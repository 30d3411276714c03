use Rattle.std.proofs.Common.{◌≡◌, ◌∙◌, ◌<◌, ◌≤◌, ℕ, List, length, true, take, get_or, map, ap, sym, subst, arith}
use Rattle.jsp_notify.specs.declared.news.News.{News}
use Rattle.jsp_notify.specs.News.{all_told, hearing}
use Rattle.jsp_notify.proofs.Told.{fewer_left, none_told, not_fewer, one_told, row_left, still_told}
use Rattle.jsp_notify.proofs.untold.tell_next.Goals as goal

pub returns-in_err-tell_next-clause-same : goal.returns-in_err-tell_next-clause-same
returns-in_err-tell_next-clause-same c =
    let items = c.news.inside.items.items in
    let place = c.first_untold-place.result in
    let some : place < length items = omega (arith, c.if-place-as_slice.false, ap (λ (ns : List News). length ns) c.as_slice-2.ensures, ap (λ (ns : List News). length ns) c.news.view_is) in
    let first = subst (λ (ns : List News). all_told (take place ns) c.args.space ≡ true) (c.as_slice.ensures ∙ sym c.news.view_is) c.first_untold-place.ensures.before in
    none_told c.args.space items place c.index_mut.result.now c.tell_next.new.self c.args.heard.now c.tell_next.new.heard some first c.index_mut.ensures.value c.tell_next.ensures.rest
    c.in_err-tell_next.ensures.no_more c.in_err-tell_next.ensures.no_further c.in_err-tell_next.ensures.stays
    ∙ ap (λ ns. map (hearing ns) c.args.heard.now) c.news.view_is

pub returns-in_err-tell_next-clause-keeps : goal.returns-in_err-tell_next-clause-keeps
returns-in_err-tell_next-clause-keeps c = λ k told.
    let items = c.news.inside.items.items in
    still_told k items c.first_untold-place.result c.index_mut.result.now c.tell_next.new.self c.index_mut.ensures.value c.tell_next.ensures.rest
    (omega (arith, c.in_err-tell_next.ensures.no_more k))
    (subst (λ (ns : List News). all_told ns k ≡ true) (sym c.news.view_is) told)

pub returns-clause-same : goal.returns-clause-same
returns-clause-same c =
    let items = c.news.inside.items.items in
    let place = c.first_untold-place.result in
    let some : place < length items = omega (arith, c.if-place-as_slice.false, ap (λ (ns : List News). length ns) c.as_slice-2.ensures, ap (λ (ns : List News). length ns) c.news.view_is) in
    let first = subst (λ (ns : List News). all_told (take place ns) c.args.space ≡ true) (c.as_slice.ensures ∙ sym c.news.view_is) c.first_untold-place.ensures.before in
    one_told c.args.space items place c.index_mut.result.now c.tell_next.new.self c.args.heard.now c.tell_next.new.heard some first c.index_mut.ensures.value c.tell_next.ensures.rest
    c.in_ok-tell_next.ensures.one_more c.in_ok-tell_next.ensures.anew c.in_ok-tell_next.ensures.told
    ∙ ap (λ ns. map (hearing ns) c.args.heard.now) c.news.view_is

pub returns-clause-keeps : goal.returns-clause-keeps
returns-clause-keeps c = λ k told.
    let items = c.news.inside.items.items in
    still_told k items c.first_untold-place.result c.index_mut.result.now c.tell_next.new.self c.index_mut.ensures.value c.tell_next.ensures.rest
    (not_fewer c.args.space k _ _ (c.in_ok-tell_next.ensures.one_more k))
    (subst (λ (ns : List News). all_told ns k ≡ true) (sym c.news.view_is) told)

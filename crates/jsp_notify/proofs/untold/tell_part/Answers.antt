use Rattle.std.proofs.Common.{◌≡◌, ◌∙◌, ◌<◌, ◌≤◌, ℕ, List, Option, length, true, take, get_or, map, ap, sym, subst, arith}
use Rattle.std.specs.Prelude.{IfSome}
use Rattle.jsp_table.specs.Counts.{count_of}
use Rattle.jsp_notify.specs.declared.news.News.{News}
use Rattle.jsp_notify.specs.News.{all_told, hearing}
use Rattle.jsp_notify.proofs.Told.{none_told, one_told, same_read, some_told}
use Rattle.jsp_notify.proofs.untold.tell_part.Goals as goal

pub returns-in_err-tell_next-in-None : goal.returns-in_err-tell_next-in-None
returns-in_err-tell_next-in-None c =
    let items = c.news.inside.items.items in
    let place = c.first_untold-place.result in
    let some : place < length items = omega (arith, c.if-place-as_slice.false, ap (λ (ns : List News). length ns) c.as_slice-2.ensures, ap (λ (ns : List News). length ns) c.news.view_is) in
    let first = subst (λ (ns : List News). all_told (take place ns) c.args.space ≡ true) (c.as_slice.ensures ∙ sym c.news.view_is) c.first_untold-place.ensures.before in
    none_told c.args.space items place c.index_mut.result.now c.tell_next.new.self c.args.heard.now c.tell_next.new.heard some first c.index_mut.ensures.value c.tell_next.ensures.rest
    c.in_err-tell_next-in-None.ensures.no_more c.in_err-tell_next-in-None.ensures.no_further c.in_err-tell_next-in-None.ensures.stays
    ∙ ap (λ ns. map (hearing ns) c.args.heard.now) c.news.view_is

pub returns-in_err-tell_below-in-Some : goal.returns-in_err-tell_below-in-Some
returns-in_err-tell_below-in-Some c =
    let items = c.news.inside.items.items in
    let place = c.first_untold-place.result in
    let old = c.index_mut-in-Some.result.now in
    let new = c.tell_below.new.self in
    let some : place < length items = omega (arith, c.if-place-as_slice.false, ap (λ (ns : List News). length ns) c.as_slice-2.ensures, ap (λ (ns : List News). length ns) c.news.view_is) in
    let first = subst (λ (ns : List News). all_told (take place ns) c.args.space ≡ true) (c.as_slice.ensures ∙ sym c.news.view_is) c.first_untold-place.ensures.before in
    let rest : new ≡ record old { told = new.told; reached = new.reached } = c.tell_below.ensures.rest ∙ ap (λ h. record old { told = h; reached = new.reached }) (sym (ap (λ (m : News). m.told) c.tell_below.ensures.rest)) in
    none_told c.args.space items place old new c.args.heard.now c.tell_below.new.heard some first c.index_mut-in-Some.ensures.value rest
    (λ k. ap (λ (m : News). count_of m.told k) c.tell_below.ensures.rest) c.in_err-tell_below-in-Some.ensures.no_further c.in_err-tell_below-in-Some.ensures.stays
    ∙ ap (λ ns. map (hearing ns) c.args.heard.now) c.news.view_is

pub returns-in_ok-tell_next-in-None : goal.returns-in_ok-tell_next-in-None
returns-in_ok-tell_next-in-None c =
    let items = c.news.inside.items.items in
    let place = c.first_untold-place.result in
    let some : place < length items = omega (arith, c.if-place-as_slice.false, ap (λ (ns : List News). length ns) c.as_slice-2.ensures, ap (λ (ns : List News). length ns) c.news.view_is) in
    let first = subst (λ (ns : List News). all_told (take place ns) c.args.space ≡ true) (c.as_slice.ensures ∙ sym c.news.view_is) c.first_untold-place.ensures.before in
    one_told c.args.space items place c.index_mut.result.now c.tell_next.new.self c.args.heard.now c.tell_next.new.heard some first c.index_mut.ensures.value c.tell_next.ensures.rest
    c.in_ok-tell_next-in-None.ensures.one_more c.in_ok-tell_next-in-None.ensures.anew c.in_ok-tell_next-in-None.ensures.told
    ∙ ap (λ ns. map (hearing ns) c.args.heard.now) c.news.view_is

pub returns-in_ok-tell_below-in-Some : goal.returns-in_ok-tell_below-in-Some
returns-in_ok-tell_below-in-Some c =
    let items = c.news.inside.items.items in
    let place = c.first_untold-place.result in
    let old = c.index_mut-in-Some.result.now in
    let some : place < length items = omega (arith, c.if-place-as_slice.false, ap (λ (ns : List News). length ns) c.as_slice-2.ensures, ap (λ (ns : List News). length ns) c.news.view_is) in
    let first = subst (λ (ns : List News). all_told (take place ns) c.args.space ≡ true) (c.as_slice.ensures ∙ sym c.news.view_is) c.first_untold-place.ensures.before in
    let read = c.index-as_slice-place.result in
    let is : read ≡ get_or items place read = c.index-as_slice-place.is ∙ ap (λ (ns : List News). get_or ns place read) (c.as_slice-3.ensures ∙ sym c.news.view_is) in
    let further : count_of read.reached c.args.space ≤ c.in-Some.below = subst (λ (o : Option ℕ). IfSome o (λ b. count_of read.reached c.args.space ≤ b)) c.in-Some.is c.in_ok-bound_of.ensures in
    some_told c.args.space c.in-Some.below items place old c.tell_below.new.self c.args.heard.now c.tell_below.new.heard some first c.index_mut-in-Some.ensures.value c.tell_below.ensures.rest
    (subst (λ (m : News). count_of m.reached c.args.space ≤ c.in-Some.below) (same_read items place read old some is c.index_mut-in-Some.ensures.value) further)
    c.in_ok-tell_below-in-Some.ensures.reached c.in_ok-tell_below-in-Some.ensures.told
    ∙ ap (λ ns. map (hearing ns) c.args.heard.now) c.news.view_is

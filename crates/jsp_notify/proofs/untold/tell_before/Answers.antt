use Rattle.std.proofs.Common.{◌≡◌, ◌∙◌, ℕ, List, true, map, ap, sym, subst}
use Rattle.std.specs.List.{list_all}
use Rattle.jsp_notify.specs.News.{all_told}
use Rattle.jsp_notify.proofs.Told.{none_behind, same_spaces}
use Rattle.jsp_notify.proofs.untold.tell_before.Goals as goal

pub returns-in_ok-tell_spaces-clause-ready : goal.returns-in_ok-tell_spaces-clause-ready
returns-in_ok-tell_spaces-clause-ready c =
    let news = c.tell_spaces.new.news in
    let heard = c.tell_spaces.new.heard in
    none_behind news c.args.number heard
    (subst (λ (spaces : List ℕ). list_all (all_told news) spaces ≡ true)
    (c.as_slice-then-any_of.ensures.value ∙ (c.in_ok-spaces.ensures ∙ same_spaces c.args.news.now news c.args.number c.args.heard.now heard c.tell_spaces.ensures.same))
    c.in_ok-tell_spaces.ensures.all)

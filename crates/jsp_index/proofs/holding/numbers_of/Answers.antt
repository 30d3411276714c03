use Rattle.std.proofs.Common.{◌≡◌, true, ◌++◌, get_or, ap, sym, ◌∙◌, subst}
use Rattle.jsp_model.specs.Lookup.{contains as has}
use Rattle.jsp_index.specs.declared.holding.Holding.{Holding}
use Rattle.jsp_index.proofs.Listed.{numbers_more}
use Rattle.jsp_index.proofs.holding.numbers_of.Goals as goal

pub holdings-preserved : goal.holdings-preserved
holdings-preserved c space n e =
    let holdings = c.args.holdings.now in
    let i = c.holdings.holding-index in
    let d = c.holding-item.result in
    let more : c.in_ok-more.more.items ≡ (get_or holdings i d).numbers = c.in_ok-more.ensures ∙ ap (λ (h : Holding). h.numbers) c.holding-item.is in
    let all : c.append.new.self.items ≡ c.holdings.numbers.items ++ (get_or holdings i d).numbers = c.in_ok-append.ensures.items ∙ ap (λ w. c.holdings.numbers.items ++ w) more in
    subst (λ ns. has ns n ≡ true) (sym all) (numbers_more holdings i d c.holdings.numbers.items c.holdings-test.true c.holdings.invariant space n e)

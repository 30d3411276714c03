use Rattle.std.proofs.Common.{◌≡◌, true, Some, ap, sym, ◌∙◌, subst}
use Rattle.std.specs.Prelude.{position}
use Rattle.jsp_table.specs.Numbers.{contains}
use Rattle.jsp_index.specs.declared.holding.Holding.{Holding}
use Rattle.jsp_index.proofs.Listed.{is_of, removed_keeps}
use Rattle.jsp_index.proofs.holding.unlist_in.Goals as goal

pub returns-in-Some : goal.returns-in-Some
returns-in-Some c =
    let found : position (is_of c.args.space) c.args.holdings.now.items ≡ Some c.in-Some.place = sym (c.place_of.ensures ∙ ap (position (is_of c.args.space)) c.deref.ensures.value) ∙ c.in-Some.is in
    let same = c.remove_from.ensures.space ∙ ap (λ (h : Holding). h.space) c.index_mut.ensures.value in
    removed_keeps c.args.space c.args.holdings.now.items c.in-Some.place _ c.remove_from.new.holding found same c.args.number
    (λ n ne h. c.remove_from.ensures.keeps n ne (subst (λ (g : Holding). contains g.numbers n ≡ true) (sym c.index_mut.ensures.value) h))

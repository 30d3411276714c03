use Rattle.std.proofs.Common.{◌≡◌, true, Some, ap, sym, ◌∙◌, subst}
use Rattle.std.specs.Prelude.{position}
use Rattle.std.proofs.lemmas.Result.{on_ok_weaker}
use Rattle.jsp_table.specs.Numbers.{contains}
use Rattle.jsp_index.specs.declared.holding.Holding.{Holding}
use Rattle.jsp_index.proofs.Listed.{is_of, none_listed, added_list, added_keeps}
use Rattle.jsp_index.proofs.holding.list_in.Goals as goal

pub begin_list-requires : goal.begin_list-requires
begin_list-requires c = none_listed c.args.space c.args.holdings.now.items (sym (c.place_of.ensures ∙ ap (position (is_of c.args.space)) c.deref.ensures.value) ∙ c.in-None.is)

pub returns-in-Some-clause-ok : goal.returns-in-Some-clause-ok
returns-in-Some-clause-ok c =
    let found : position (is_of c.args.space) c.args.holdings.now.items ≡ Some c.in-Some.place = sym (c.place_of.ensures ∙ ap (position (is_of c.args.space)) c.deref.ensures.value) ∙ c.in-Some.is in
    let same = c.add_to.ensures.space ∙ ap (λ (h : Holding). h.space) c.index_mut.ensures.value in
    on_ok_weaker c.add_to.result (λ made. added_list c.args.space c.args.holdings.now.items c.in-Some.place _ c.add_to.new.holding found same c.args.number made) c.add_to.ensures.ok

pub returns-in-Some-clause-keeps : goal.returns-in-Some-clause-keeps
returns-in-Some-clause-keeps c =
    let found : position (is_of c.args.space) c.args.holdings.now.items ≡ Some c.in-Some.place = sym (c.place_of.ensures ∙ ap (position (is_of c.args.space)) c.deref.ensures.value) ∙ c.in-Some.is in
    let same = c.add_to.ensures.space ∙ ap (λ (h : Holding). h.space) c.index_mut.ensures.value in
    added_keeps c.args.space c.args.holdings.now.items c.in-Some.place _ c.add_to.new.holding found same
    (λ n h. c.add_to.ensures.keeps n (subst (λ (g : Holding). contains g.numbers n ≡ true) (sym c.index_mut.ensures.value) h))

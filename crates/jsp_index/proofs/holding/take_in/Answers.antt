use Rattle.std.proofs.Common.{◌≡◌, Some, ap, sym, ◌∙◌, eqb}
use Rattle.std.specs.Prelude.{position}
use Rattle.jsp_index.specs.declared.holding.Holding.{Holding}
use Rattle.jsp_index.specs.Holding.{listed_in, is_in}
use Rattle.jsp_index.proofs.Listed.{is_of, none_listed, listed_there, is_there, without_place}
use Rattle.jsp_index.proofs.Revisions.{eqb_same}
use Rattle.jsp_index.proofs.holding.take_in.Goals as goal

pub returns-in-None-clause-taken : goal.returns-in-None-clause-taken
returns-in-None-clause-taken c = sym (none_listed c.args.space c.args.holdings.now.items (sym (c.place_of.ensures ∙ ap (position (is_of c.args.space)) c.deref.ensures.value) ∙ c.in-None.is))

pub returns-in-Some-clause-taken : goal.returns-in-Some-clause-taken
returns-in-Some-clause-taken c =
    let found : position (is_of c.args.space) c.args.holdings.now.items ≡ Some c.in-Some.place = sym (c.place_of.ensures ∙ ap (position (is_of c.args.space)) c.deref.ensures.value) ∙ c.in-Some.is in
    ap (λ (h : Holding). Some h.numbers) c.remove.ensures.value ∙ sym (listed_there c.args.space c.args.holdings.now.items c.in-Some.place c.remove.result found)

pub returns-in-Some-clause-space : goal.returns-in-Some-clause-space
returns-in-Some-clause-space c =
    let found : position (is_of c.args.space) c.args.holdings.now.items ≡ Some c.in-Some.place = sym (c.place_of.ensures ∙ ap (position (is_of c.args.space)) c.deref.ensures.value) ∙ c.in-Some.is in
    ap (λ (h : Holding). h.space) c.remove.ensures.value ∙ (is_there c.args.space c.args.holdings.now.items c.in-Some.place c.remove.result found).1

pub returns-in-Some-clause-others : goal.returns-in-Some-clause-others
returns-in-Some-clause-others c =
    let hs = c.args.holdings.now.items in
    let found : position (is_of c.args.space) hs ≡ Some c.in-Some.place = sym (c.place_of.ensures ∙ ap (position (is_of c.args.space)) c.deref.ensures.value) ∙ c.in-Some.is in
    let at = is_there c.args.space hs c.in-Some.place c.remove.result found in
    λ s n ne is. ap (λ w. is_in (listed_in w s) n) c.remove.ensures.items
    ∙ (ap (λ o. is_in o n) (without_place hs c.in-Some.place c.remove.result s at.0 (ap (λ k. eqb k s) at.1 ∙ (eqb_same c.args.space s ∙ ne))) ∙ is)

use Rattle.std.proofs.Common.{◌≡◌, ◌∙◌, ap, sym, subst, true, [], Some, find}
use Rattle.jsp_model.specs.declared.state.State.{State}
use Rattle.jsp_core.specs.Offering.{are_offered}
use Rattle.jsp_wait.specs.Offered.{takes_one}
use Rattle.jsp_state.specs.Taking.{may_take}
use Rattle.jsp_state.proofs.OnOffer.{takers_of, ask_for_it, no_takers, none_left}
use Rattle.jsp_state.proofs.offered.first_taker.Goals as goal

pub returns-then-is_empty : goal.returns-then-is_empty
returns-then-is_empty c =
    let none : c.args.numbers.now ≡ [] = none_left c.args.numbers.now (sym c.is_empty.ensures ∙ c.if-is_empty.true) in
    no_takers c.args.state.now c.args.space (subst (λ ns. are_offered (Some ns) c.args.state.now ≡ true) none c.requires.offered)

pub first_taker-requires : goal.first_taker-requires
first_taker-requires c = ask_for_it c.args.state.now

pub returns : goal.returns
returns c =
    c.first_taker.ensures
    ∙ ap (λ (st : State). find (takes_one (may_take c.args.state.now) c.args.space c.args.numbers.now) st.blocked) c.state.view_is
    ∙ takers_of c.args.state.now c.args.numbers.now c.args.space c.requires.rising c.requires.offered

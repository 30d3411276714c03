use Rattle.std.proofs.Common.{◌∙◌, ap, not, find, option_copied}
use Rattle.jsp_model.specs.declared.state.State.{State}
use Rattle.jsp_model.specs.Sight.{has_conflict}
use Rattle.jsp_wait.specs.Offered.{freed_among, waits_no_more}
use Rattle.jsp_state.specs.Taking.{may_take}
use Rattle.jsp_state.proofs.OnOffer.{ask_for_it}
use Rattle.jsp_state.proofs.Stirred.{stirred_of}
use Rattle.jsp_state.proofs.offered.first_stirred.Goals as goal

pub first_stirred-requires : goal.first_stirred-requires
first_stirred-requires c = ask_for_it c.args.state.now

pub returns : goal.returns
returns c =
    c.first_stirred.ensures
    ∙ ap (λ (st : State). find (waits_no_more (may_take c.args.state.now) (freed_among (λ b. not (has_conflict c.args.state.now b)) (option_copied c.args.stirred)) c.args.space c.args.numbers.now) st.blocked) c.state.view_is
    ∙ stirred_of c.args.state.now c.args.numbers.now (option_copied c.args.stirred) c.args.space c.requires.rising c.requires.offered c.requires.stirred

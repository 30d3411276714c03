use Rattle.std.proofs.Common.{◌∙◌, sym, subst, List}
use Rattle.std.specs.Prelude.{IsTrue}
use Rattle.std.specs.List.{list_all}
use Rattle.std.proofs.lemmas.Result.{IfOk-weaker}
use Rattle.jsp_reply.specs.Limits.{is_within_limits}
use Rattle.jsp_model.specs.Answers.{Saying}
use Rattle.jsp_limits.proofs.Sayings.{said_fits}
use Rattle.jsp_machine.proofs.Chosen.{legal_choice}
use Rattle.jsp_machine.proofs.Stepping.{heard_is}
use Rattle.jsp_machine.proofs.saying.said_judged.Goals as goal

pub all_said-requires-clause-choice : goal.all_said-requires-clause-choice
all_said-requires-clause-choice c = rw c.state-state.ensures.state (legal_choice c.args.image.now c.args.step.now c.requires.legal)

pub within_limits-requires : goal.within_limits-requires
within_limits-requires c =
    let st = c.args.image.now in
    let heard = heard_is st c.args.step.now c.in_ok-replies.replies.items c.drop_unheard.new.replies.items (rw c.state-state.ensures.state at c.in_ok-replies.ensures) (rw c.state-state.ensures.state at c.drop_unheard.ensures) in
    subst (λ (w : List Saying). IsTrue (list_all (λ (a : Saying). is_within_limits a.1) w)) (sym heard) (said_fits st c.args.step.now c.state-state.ensures.limits c.requires.legal c.keeps_its_request.ensures)

pub returns : goal.returns
returns c =
    let heard = heard_is c.args.image.now c.args.step.now c.in_ok-replies.replies.items c.drop_unheard.new.replies.items (rw c.state-state.ensures.state at c.in_ok-replies.ensures) (rw c.state-state.ensures.state at c.drop_unheard.ensures) in
    IfOk-weaker c.within_limits.result _ _ (λ v h. h ∙ heard) c.within_limits.ensures

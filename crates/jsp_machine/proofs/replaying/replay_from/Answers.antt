use Rattle.std.proofs.Common.{◌≡◌, ◌∙◌, Result, sym, subst}
use Rattle.std.specs.Prelude.{IfErr}
use Rattle.std.proofs.lemmas.Result.{err_from_is_err_and}
use Rattle.jsp_model.specs.declared.state.State.{State}
use Rattle.jsp_model.specs.Runs.{first_illegal}
use Rattle.jsp_machine.specs.declared.replaying.Replayed.{Replayed}
use Rattle.jsp_machine.specs.declared.replaying.ReplayFault.{ReplayFault}
use Rattle.jsp_machine.specs.Replay.{FailsAt}
use Rattle.jsp_machine.proofs.replaying.replay_from.Goals as goal

pub returns-in_err-said-clause-illegal : goal.returns-in_err-said-clause-illegal
returns-in_err-said-clause-illegal c =
    let same : c.in_ok-image.image ≡ c.args.base.now = c.in_ok-image.ensures ∙ c.in_ok-copy.ensures in
    let wanted = first_illegal c.args.base.now c.args.steps.now in
    let fails : FailsAt c.in_err-said.field-0.0 wanted = subst (λ (st : State). FailsAt c.in_err-said.field-0.0 (first_illegal st c.args.steps.now)) same c.in_err-said.ensures.illegal in
    let told = err_from_is_err_and c.from_residual-in_err-said.result c.from_residual-in_err-said.ensures.1 in
    subst (λ (r : Result Replayed ReplayFault). IfErr r (λ e. FailsAt e wanted)) (sym told.1) (subst (λ (e : ReplayFault). FailsAt e wanted) (sym told.2) fails)

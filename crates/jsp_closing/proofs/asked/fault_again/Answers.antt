use Rattle.std.proofs.Common.{refl}
use Rattle.jsp_model.specs.declared.step.Step.TheVariants as step
use Rattle.jsp_drive.specs.declared.hear.LineInput.TheVariants.{Fault}
use Rattle.std.proofs.lemmas.Result.{err_from_is_err_and}
use Rattle.jsp_closing.proofs.Denying.{denies_weaker}
use Rattle.jsp_closing.proofs.Histories.{fault_has_next, fault_is, fault_no_request}
use Rattle.jsp_closing.proofs.Rereading.{give_asked}
use Rattle.jsp_closing.proofs.asked.fault_again.Goals as goal

pub returns-in-Fault-clause-gave : goal.returns-in-Fault-clause-gave
returns-in-Fault-clause-gave c =
    let s = c.args.session in
    let id = c.in-Fault.id in
    let refusal = c.in-Fault.refusal in
    give_asked s (step.Fault s id refusal) (Fault id refusal) _ _ (λ t. refl) (rw c.in-Fault.is at c.in_ok-id.ensures.gives)

pub returns-in-Fault-clause-only : goal.returns-in-Fault-clause-only
returns-in-Fault-clause-only c = λ wanted h. fault_is c.args.session c.args.lines.now.items c.in-Fault.id c.in-Fault.refusal wanted (rw c.in-Fault.is at c.in_ok-id.ensures.only) h

pub returns-in-Ask-clause-err : goal.returns-in-Ask-clause-err
returns-in-Ask-clause-err c = fault_no_request c.args.session c.args.lines.now.items c.in-Ask.asked (rw c.in-Ask.is at c.in_ok-id.ensures.only)

pub returns-in_err-id-clause-err : goal.returns-in_err-id-clause-err
returns-in_err-id-clause-err c =
    let e = err_from_is_err_and c.from_residual.result c.from_residual.ensures.1 in
    rw (e.1, e.2) (denies_weaker _ _ (fault_has_next c.args.session c.args.lines.now.items) c.in_err-id.field-0.0 c.in_err-id.ensures.err)

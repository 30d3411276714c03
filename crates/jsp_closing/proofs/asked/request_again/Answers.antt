use Rattle.std.proofs.Common.{refl}
use Rattle.jsp_model.specs.declared.step.Step.TheVariants as step
use Rattle.jsp_drive.specs.declared.hear.LineInput.TheVariants.{Ask}
use Rattle.std.proofs.lemmas.Result.{err_from_is_err_and}
use Rattle.jsp_closing.proofs.Denying.{denies_weaker}
use Rattle.jsp_closing.proofs.Histories.{request_has_next, request_is, request_no_fault}
use Rattle.jsp_closing.proofs.Rereading.{give_asked}
use Rattle.jsp_closing.proofs.asked.request_again.Goals as goal

pub returns-in-Ask-clause-gave : goal.returns-in-Ask-clause-gave
returns-in-Ask-clause-gave c =
    let s = c.args.session in
    let asked = c.in-Ask.asked in
    give_asked s (step.Ask s asked c.args.rows) (Ask asked) _ _ (λ t. refl) (rw c.in-Ask.is at c.in_ok-asked.ensures.gives)

pub returns-in-Ask-clause-only : goal.returns-in-Ask-clause-only
returns-in-Ask-clause-only c = λ wanted h. request_is c.args.session c.args.rows c.args.lines.now.items c.in-Ask.asked wanted (rw c.in-Ask.is at c.in_ok-asked.ensures.only) h

pub returns-in-Fault-clause-err : goal.returns-in-Fault-clause-err
returns-in-Fault-clause-err c = request_no_fault c.args.session c.args.rows c.args.lines.now.items c.in-Fault.field-0 c.in-Fault.field-1 (rw c.in-Fault.is at c.in_ok-asked.ensures.only)

pub returns-in_err-asked-clause-err : goal.returns-in_err-asked-clause-err
returns-in_err-asked-clause-err c =
    let e = err_from_is_err_and c.from_residual.result c.from_residual.ensures.1 in
    rw (e.1, e.2) (denies_weaker _ _ (request_has_next c.args.session c.args.rows c.args.lines.now.items) c.in_err-asked.field-0.0 c.in_err-asked.ensures.err)

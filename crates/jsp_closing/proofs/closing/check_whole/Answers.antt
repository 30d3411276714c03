use Rattle.std.proofs.lemmas.Result.{IfErr-weaker, err_from_is_err_and, on_ok_weaker}
use Rattle.jsp_model.specs.Lookup.{empty}
use Rattle.jsp_closing.proofs.Ending.{is_right}
use Rattle.jsp_closing.proofs.Denying.{denies_from}
use Rattle.jsp_closing.proofs.Whole.{replay_denies, whole_right, whole_told}
use Rattle.jsp_closing.proofs.closing.check_whole.Goals as goal

pub returns-clause-ok : goal.returns-clause-ok
returns-clause-ok c =
    let steps = c.args.steps.now in
    let reports = c.args.reports.now in
    let replayed = c.in_ok-replayed.ensures in
    on_ok_weaker c.check_replayed.result
    (λ h. is_right c.args.config.now steps reports c.in_ok-replayed.replayed.image c.in_ok-replayed.replayed.said.items replayed.run replayed.laws replayed.image replayed.said h)
    c.check_replayed.ensures.ok

pub returns-in_err-replayed-clause-err : goal.returns-in_err-replayed-clause-err
returns-in_err-replayed-clause-err c =
    let e = err_from_is_err_and c.from_residual.result c.from_residual.ensures.1 in
    rw e.1 (replay_denies _ (empty c.args.config.now) c.args.steps.now c.in_err-replayed.field-0.0 e.0 (λ h. h.run) c.in_err-replayed.ensures.illegal e.2)

pub returns-clause-err : goal.returns-clause-err
returns-clause-err c =
    let config = c.args.config.now in
    let steps = c.args.steps.now in
    let reports = c.args.reports.now in
    let replayed = c.in_ok-replayed.ensures in
    IfErr-weaker c.check_replayed.result _ _
    (λ e denies. denies_from _ _ _
    (λ h. whole_told config steps reports c.in_ok-replayed.replayed.said.items replayed.said h)
    (λ h. whole_right config steps reports c.in_ok-replayed.replayed.image c.in_ok-replayed.replayed.said.items replayed.image replayed.said h) e denies)
    c.check_replayed.ensures.err

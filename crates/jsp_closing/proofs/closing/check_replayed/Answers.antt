use Rattle.std.proofs.Common.{◌∙◌, List, length, ap, sym, subst, arith}
use Rattle.jsp_model.specs.declared.state.State.{State}
use Rattle.jsp_model.specs.Answers.{Saying}
use Rattle.std.proofs.lemmas.Result.{err_from_is_err_and}
use Rattle.jsp_closing.specs.Leaving.{AllAsk}
use Rattle.jsp_closing.specs.Within.{AreTold}
use Rattle.jsp_closing.specs.Writing.{AreWritten}
use Rattle.jsp_closing.proofs.Denying.{denies_weaker}
use Rattle.jsp_closing.proofs.closing.check_replayed.Goals as goal

pub returns-clause-ok : goal.returns-clause-ok
returns-clause-ok c = record {
  rest = c.is_at_rest.ensures.so c.if-not-is_at_rest.false;
  count = ap (λ (st : State). st.last_session) (sym c.state-state.ensures.state) ∙ omega (arith, c.if-state-reports.false, ap (λ (st : State). st.last_session) c.state.view_is);
  asks = subst (λ (st : State). AllAsk c.args.steps.now st c.args.reports.now) c.state-state.ensures.state c.in_ok-check_lines.ensures.ok;
  writes = subst (λ (said : List Saying). AreWritten c.args.reports.now said) c.as_slice.ensures.value c.in_ok-check_written.ensures.ok;
  opened = c.are_opened.ensures.so c.if-not-are_opened.false;
}

pub returns-in_err-check_lines-clause-err : goal.returns-in_err-check_lines-clause-err
returns-in_err-check_lines-clause-err c =
    let e = err_from_is_err_and c.from_residual.result c.from_residual.ensures.1 in
    rw (e.1, e.2) (λ told. denies_weaker _ _
    (λ right. subst (λ (st : State). AllAsk c.args.steps.now st c.args.reports.now) (sym c.state-state.ensures.state) right.asks)
    c.in_err-check_lines.field-0.0 c.in_err-check_lines.ensures.err)

pub returns-in_err-check_written-clause-err : goal.returns-in_err-check_written-clause-err
returns-in_err-check_written-clause-err c =
    let e = err_from_is_err_and c.from_residual-in_err-check_written.result c.from_residual-in_err-check_written.ensures.1 in
    rw (e.1, e.2) (λ told. denies_weaker _ _
    (λ right. (
      subst (AreTold (length c.args.reports.now)) (sym c.as_slice.ensures.value) told,
      subst (λ (said : List Saying). AreWritten c.args.reports.now said) (sym c.as_slice.ensures.value) right.writes,
    ))
    c.in_err-check_written.field-0.0 c.in_err-check_written.ensures.err)

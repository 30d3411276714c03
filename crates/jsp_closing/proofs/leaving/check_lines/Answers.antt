use Rattle.std.proofs.Common.{◌≡◌, ◌∙◌, ℕ, ◌+◌, length, refl, sym, arith}
use Rattle.std.specs.Prelude.{Some, slice_get}
use Rattle.std.proofs.lemmas.List.{length-set}
use Rattle.std.proofs.lemmas.Option.{slice_get_read}
use Rattle.std.proofs.lemmas.Result.{err_from_is_err_and}
use Rattle.jsp_closing.proofs.Denying.{denies_weaker}
use Rattle.jsp_closing.specs.declared.closed.LineReport.{LineReport}
use Rattle.jsp_closing.specs.Leaving.{MayAsk}
use Rattle.jsp_closing.proofs.Places.{set_elsewhere, each_more, each_all}
use Rattle.jsp_closing.proofs.leaving.check_lines.Goals as goal

pub loop-i-preserved : goal.loop-i-preserved
loop-i-preserved c =
    let h = c.loop-i.invariant in
    let i = c.loop-i.i in
    let reports = c.args.reports.now in
    let lines = c.loop-i.lines.items in
    let report = c.index-reports-i.result in
    let flag = c.index.result.now in
    let line = c.index_mut.result.now in
    let here : slice_get reports i ≡ Some report = slice_get_read reports (length reports) i report refl c.loop-i-test.true c.index-reports-i.is in
    let at_flag : slice_get c.in_ok-shut.shut.items i ≡ Some flag = slice_get_read c.in_ok-shut.shut.items (length reports) i flag (sym c.in_ok-shut.ensures.count) c.loop-i-test.true c.index.ensures in
    let at_line : slice_get lines i ≡ Some line = slice_get_read lines (length reports) i line (sym h.0) c.loop-i-test.true c.index_mut.ensures.value in
    let first : slice_get c.args.lines.now.items i ≡ Some line = sym (h.1 i (omega arith)) ∙ at_line in
    let asks = c.in_ok-check_line.ensures.ok c.args.steps.now (c.in_ok-shut.ensures.tell i flag at_flag) (λ whole. c.requires.gave i report line here first whole) in (
      length-set lines i c.check_line.new.line ∙ h.0,
      λ j after. set_elsewhere lines i j c.check_line.new.line (λ same. omega (arith, after, same)) ∙ h.1 j (omega (arith, after)),
      each_more (λ (j : ℕ) (r : LineReport). MayAsk (j + 1) c.args.steps.now c.args.state.now r) reports i report h.2 here asks,
    )

pub returns-clause-ok : goal.returns-clause-ok
returns-clause-ok c =
    each_all (λ (j : ℕ) (r : LineReport). MayAsk (j + 1) c.args.steps.now c.args.state.now r) c.args.reports.now c.loop-i.i (omega arith) c.loop-i.invariant.2

pub returns-in_err-check_line-clause-err : goal.returns-in_err-check_line-clause-err
returns-in_err-check_line-clause-err c =
    let h = c.loop-i.invariant in
    let i = c.loop-i.i in
    let reports = c.args.reports.now in
    let lines = c.loop-i.lines.items in
    let report = c.index-reports-i.result in
    let flag = c.index.result.now in
    let line = c.index_mut.result.now in
    let here : slice_get reports i ≡ Some report = slice_get_read reports (length reports) i report refl c.loop-i-test.true c.index-reports-i.is in
    let at_flag : slice_get c.in_ok-shut.shut.items i ≡ Some flag = slice_get_read c.in_ok-shut.shut.items (length reports) i flag (sym c.in_ok-shut.ensures.count) c.loop-i-test.true c.index.ensures in
    let at_line : slice_get lines i ≡ Some line = slice_get_read lines (length lines) i line refl (omega (arith, h.0, c.loop-i-test.true)) c.index_mut.ensures.value in
    let first : slice_get c.args.lines.now.items i ≡ Some line = sym (h.1 i (omega arith)) ∙ at_line in
    let e = err_from_is_err_and c.from_residual-in_err-check_line.result c.from_residual-in_err-check_line.ensures.1 in
    rw (e.1, e.2) (denies_weaker _ _ (λ all. all i report here) c.in_err-check_line.field-0.0
    (c.in_err-check_line.ensures.err c.args.steps.now (c.in_ok-shut.ensures.tell i flag at_flag) (λ whole. c.requires.gave i report line here first whole)))

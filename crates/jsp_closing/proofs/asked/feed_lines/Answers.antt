use Rattle.std.proofs.Common.{ℕ, List, [], take, subst}
use Rattle.std.proofs.lemmas.List.{take_all}
use Rattle.jsp_drive.specs.Giving.{Gave}
use Rattle.jsp_closing.specs.declared.closed.LineReport.{LineReport}
use Rattle.jsp_closing.specs.Asking.{HaveGiven}
use Rattle.jsp_closing.proofs.Places.{take_next}
use Rattle.jsp_closing.proofs.Rereading.{given_nothing, given_line}
use Rattle.jsp_closing.proofs.asked.feed_lines.Goals as goal

pub loop-report-init : goal.loop-report-init
loop-report-init c = rw c.new-lines.ensures.items given_nothing

pub loop-report-preserved : goal.loop-report-preserved
loop-report-preserved c =
    let report = c.report-item.result in
    let more = take_next c.args.reports.now c.loop-report.report-index report c.loop-report-test.true c.report-item.is in
    rw (more, c.in_ok-push.ensures.items)
    (given_line (take c.loop-report.report-index c.args.reports.now) c.loop-report.lines.items report c.in_ok-line.line c.loop-report.invariant
    (λ s. subst (λ (bytes : List ℕ). Gave s bytes [] c.in_ok-line.line) c.as_slice.ensures.value (c.in_ok-line.ensures s)))

pub returns : goal.returns
returns c = subst (λ (rs : List LineReport). HaveGiven rs c.loop-report.lines.items []) (take_all c.loop-report.report-index c.args.reports.now c.loop-report-test.false) c.loop-report.invariant

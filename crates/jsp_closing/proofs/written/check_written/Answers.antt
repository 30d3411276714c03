use Rattle.std.proofs.Common.{◌≡◌, ℕ, ◌+◌, length, refl, sym, arith}
use Rattle.std.specs.Prelude.{Some, slice_get}
use Rattle.std.proofs.lemmas.Option.{slice_get_read}
use Rattle.jsp_closing.specs.declared.closed.LineReport.{LineReport}
use Rattle.jsp_drive.specs.Bytes.{frames}
use Rattle.jsp_closing.specs.Writing.{answers_to, MayBeWritten}
use Rattle.jsp_closing.proofs.Places.{each_more, each_all}
use Rattle.jsp_closing.proofs.Tallies.{all_matched, is_written}
use Rattle.jsp_closing.proofs.written.check_written.Goals as goal

pub loop-i-preserved : goal.loop-i-preserved
loop-i-preserved c =
    let i = c.loop-i.i in
    let reports = c.args.reports.now in
    let matched = c.in_ok-matched.matched.items in
    let report = c.index-reports-i.result in
    let n = c.index.result.now in
    let h = c.in_ok-matched.ensures.ok in
    let here : slice_get reports i ≡ Some report = slice_get_read reports (length reports) i report refl c.loop-i-test.true c.index-reports-i.is in
    let there : slice_get matched i ≡ Some n = slice_get_read matched (length reports) i n (sym h.count) c.loop-i-test.true c.index.ensures in
    each_more (λ (j : ℕ) (r : LineReport). MayBeWritten (j + 1) c.args.said.now r) reports i report c.loop-i.invariant here
    (λ whole. is_written (i + 1) c.args.said.now report n (h.each i report n here there whole) (c.is_matched.ensures.so c.if-not-is_matched.false whole))

pub returns-clause-ok : goal.returns-clause-ok
returns-clause-ok c = each_all (λ (j : ℕ) (r : LineReport). MayBeWritten (j + 1) c.args.said.now r) c.args.reports.now c.loop-i.i (omega arith) c.loop-i.invariant

pub returns-then-not-is_matched-clause-err : goal.returns-then-not-is_matched-clause-err
returns-then-not-is_matched-clause-err c = λ b.
    let i = c.loop-i.i in
    let reports = c.args.reports.now in
    let matched = c.in_ok-matched.matched.items in
    let report = c.index-reports-i.result in
    let n = c.index.result.now in
    let h = c.in_ok-matched.ensures.ok in
    let here : slice_get reports i ≡ Some report = slice_get_read reports (length reports) i report refl c.loop-i-test.true c.index-reports-i.is in
    let there : slice_get matched i ≡ Some n = slice_get_read matched (length reports) i n (sym h.count) c.loop-i-test.true c.index.ensures in
    let differs = c.is_matched.ensures.not_so c.if-not-is_matched.true in
    differs.1 (all_matched report.write_failed report.written.items (frames (answers_to (i + 1) c.args.said.now)) n (h.each i report n here there differs.0) (b.1 i report here differs.0))

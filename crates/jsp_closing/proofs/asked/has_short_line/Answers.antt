use Rattle.std.proofs.Common.{◌≡◌, ◌∙◌, ◌-◌, length, ap, refl, sym, arith}
use Rattle.std.specs.Prelude.{Some, not, slice_get}
use Rattle.std.proofs.lemmas.Option.{slice_get_read}
use Rattle.jsp_closing.specs.declared.closed.LineReport.{LineReport}
use Rattle.jsp_closing.proofs.Rereading.{short_at, short_beyond}
use Rattle.jsp_closing.proofs.asked.has_short_line.Goals as goal

pub returns-then-place-reports : goal.returns-then-place-reports
returns-then-place-reports c = sym (short_beyond c.args.reports.now c.args.session (omega arith))

pub returns : goal.returns
returns c =
    let report = c.index-reports-place.result in
    let here : slice_get c.args.reports.now (c.args.session - 1) ≡ Some report = slice_get_read c.args.reports.now (length c.args.reports.now) (c.args.session - 1) report refl (omega arith) c.index-reports-place.is in
    ap (λ (r : LineReport). not r.is_whole) (sym c.index-reports-place.is) ∙ sym (short_at c.args.reports.now c.args.session report (λ none. omega (arith, none)) here)

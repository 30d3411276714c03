use Rattle.std.proofs.Common.{◌≡◌, ◌<◌, ◌+◌, ◌-◌, length, refl, arith}
use Rattle.std.specs.Prelude.{Some, slice_get}
use Rattle.std.proofs.lemmas.Option.{slice_get_read}
use Rattle.std.proofs.lemmas.Result.{err_from_is_err_and}
use Rattle.jsp_drive.specs.Bytes.{frames}
use Rattle.jsp_closing.specs.Writing.{answers_to}
use Rattle.jsp_closing.proofs.Denying.{denies_weaker}
use Rattle.jsp_closing.proofs.Tallies.{are_matched_more, written_next}
use Rattle.jsp_closing.proofs.written.match_frame.Goals as goal

pub returns-clause-ok : goal.returns-clause-ok
returns-clause-ok c = λ said answer is h.
    let reports = c.args.reports.now in
    let matched = c.args.matched.now.items in
    let s = c.args.session in
    let place = s - 1 in
    let report = c.index-reports-place.result in
    let from = c.index-from.result.now in
    let within : place < length reports = omega arith in
    let count : length matched ≡ length reports = h.count in
    let here : slice_get reports place ≡ Some report = slice_get_read reports (length reports) place report refl within c.index-reports-place.is in
    let there : slice_get matched place ≡ Some from = slice_get_read matched (length matched) place from refl (omega (arith, count, within)) c.index-from.ensures in
    are_matched_more reports matched said s place from c.in_ok-matched.field-0 answer report c.args.frame.now (omega arith) here there is c.in_ok-matched.ensures.ok h

pub returns-in_err-matched-clause-err : goal.returns-in_err-matched-clause-err
returns-in_err-matched-clause-err c =
    let e = err_from_is_err_and c.from_residual.result c.from_residual.ensures.1 in
    rw (e.1, e.2) (λ said more answer is h.
    let reports = c.args.reports.now in
    let matched = c.args.matched.now.items in
    let s = c.args.session in
    let place = s - 1 in
    let report = c.index-reports-place.result in
    let from = c.index-from.result.now in
    let within : place < length reports = omega arith in
    let count : length matched ≡ length reports = h.count in
    let session : s ≡ place + 1 = omega arith in
    let here : slice_get reports place ≡ Some report = slice_get_read reports (length reports) place report refl within c.index-reports-place.is in
    let there : slice_get matched place ≡ Some from = slice_get_read matched (length matched) place from refl (omega (arith, count, within)) c.index-from.ensures in
    let differs = c.in_err-matched.ensures.err in
    denies_weaker _ _ (λ b. written_next s place answer said more reports report c.args.frame.now session here differs.0 is b.1) c.in_err-matched.field-0.0
    (differs.1 (frames (answers_to (place + 1) said)) (frames (answers_to (place + 1) more)) (h.each place report from here there differs.0)))

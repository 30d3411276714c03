use Rattle.std.proofs.Common.{◌≡◌, ◌++◌, ◌+◌, ◌-◌, ◌<◌, ◌≤◌, ℕ, List, Bool, true, false, length, take, drop, refl, ap, sym, ◌∙◌, subst, arith}
use Rattle.std.specs.Prelude.{not}
use Rattle.std.proofs.lemmas.List.{take_rest}
use Rattle.std.proofs.lemmas.Slice.Eq.{bytes_eq-Decides}
use Rattle.jsp_closing.specs.Writing.{AreBytesOf, Matches}
use Rattle.jsp_closing.proofs.Tallies.{matches_more, same_next}
use Rattle.jsp_closing.proofs.written.match_bytes.Goals as goal
use Rattle.jsp_closing.proofs.written.match_bytes.Goals.{else-count-frame-via-then-count-frame+else-not-report-2, else-count-frame-via-else-count-frame}

true_from : (b : Bool) → false ≡ not b → b ≡ true
true_from true e = refl
true_from false e = absurd (cc)

pub returns-clause-ok : goal.returns-clause-ok
returns-clause-ok c = λ all whole h.
    let written = c.as_slice-written.result.now in
    let failed = c.args.report.now.write_failed in
    let from = c.args.from in
    let frame = c.args.frame.now in
    let n = c.min-count.result in
    let rest = take (length written - from) (drop from written) in
    let is : rest ≡ drop from written = take_rest written from in
    let same : take n rest ≡ take n frame = (bytes_eq-Decides _ _).0 (true_from _ c.if-ne.ensures) in
    let same' : take n (drop from written) ≡ take n frame = subst (λ (xs : List ℕ). take n xs ≡ take n frame) is same in
    let lengths : length rest ≡ length (drop from written) = ap length is in
    let in_frame : n ≤ length frame = omega (arith, c.min-count.ensures) in
    let in_rest : n ≤ length (drop from written) = omega (arith, c.min-count.ensures, lengths) in
    let short : n < length frame → (length (drop from written) ≤ n) × (failed ≡ true) = λ less. elim c.else-count-frame.branch [
      | else-count-frame-via-then-count-frame+else-not-report-2 w ↦ (omega (arith, less, c.min-count.ensures, lengths), w.if-not-report-2.false)
      | else-count-frame-via-else-count-frame w ↦ absurd (omega (arith, less, w.if-count-frame.false))
    ] in
    subst (λ (xs : List ℕ). Matches failed xs all from → Matches failed xs (all ++ frame) (from + n)) c.as_slice-written.ensures.value
    (matches_more failed written all frame from n same' in_frame in_rest short) h

pub returns-then-ne-clause-err : goal.returns-then-ne-clause-err
returns-then-ne-clause-err c = (
  c.if-not-report.false,
  λ all more h w.
      let written = c.as_slice-written.result.now in
      let failed = c.args.report.now.write_failed in
      let from = c.args.from in
      let frame = c.args.frame.now in
      let n = c.min-count.result in
      let rest = take (length written - from) (drop from written) in
      let is : rest ≡ drop from written = take_rest written from in
      let lengths : length rest ≡ length (drop from written) = ap length is in
      let in_frame : n ≤ length frame = omega (arith, c.min-count.ensures) in
      let in_rest : n ≤ length (drop from written) = omega (arith, c.min-count.ensures, lengths) in
      let h' : Matches failed written all from = subst (λ (xs : List ℕ). Matches failed xs all from) (sym c.as_slice-written.ensures.value) h in
      let w' : AreBytesOf failed written (all ++ (frame ++ more)) = subst (λ (xs : List ℕ). AreBytesOf failed xs (all ++ (frame ++ more))) (sym c.as_slice-written.ensures.value) w in
      let same : take n rest ≡ take n frame = ap (take n) is ∙ same_next failed written all frame more from n h' w' in_frame in_rest in
      absurd (cc (c.if-ne.ensures, (bytes_eq-Decides _ _).1 same)),
)

use Rattle.std.proofs.Common.{◌≡◌, ◌∙◌, ◌+◌, ◌++◌, ◌∷◌, List, length, take, drop, replicate, subst}
use Rattle.std.specs.List.{AllByRecursion}
use Rattle.std.proofs.lemmas.Result.{err_from_is_err_and}
use Rattle.std.proofs.lemmas.List.{length-replicate, take_all}
use Rattle.jsp_model.specs.Answers.{Saying}
use Rattle.jsp_closing.specs.Within.{IsWithin}
use Rattle.jsp_closing.specs.Writing.{AreMatched, AreWritten}
use Rattle.jsp_closing.proofs.Denying.{denies_weaker}
use Rattle.jsp_closing.proofs.Places.{take_next, at_replicate, each_between, split_next}
use Rattle.jsp_closing.proofs.Tallies.{are_matched_none}
use Rattle.jsp_closing.proofs.written.match_all.Goals as goal

pub loop-session-init : goal.loop-session-init
loop-session-init c =
    let n = length c.args.reports.now in
    rw c.in_ok-matched.ensures (are_matched_none c.args.reports.now (replicate n 0) (length-replicate n 0) (λ i k at. at_replicate n i 0 k at))

pub loop-session-preserved : goal.loop-session-preserved
loop-session-preserved c =
    let i = c.loop-session.session-index in
    let item = c.loop-session-item.result in
    let more = take_next c.args.said.now i item c.loop-session-test.true c.loop-session-item.is in
    rw more (c.in_ok-match_frame.ensures.ok (take i c.args.said.now) item.1 (c.as_slice.ensures.value ∙ c.in_ok-frame.ensures) c.loop-session.invariant)

pub returns-clause-ok : goal.returns-clause-ok
returns-clause-ok c =
    subst (λ (said : List Saying). AreMatched c.args.reports.now c.loop-session.matched.items said) (take_all c.loop-session.session-index c.args.said.now c.loop-session-test.false) c.loop-session.invariant

pub returns-in_err-match_frame-clause-err : goal.returns-in_err-match_frame-clause-err
returns-in_err-match_frame-clause-err c =
    let i = c.loop-session.session-index in
    let item = c.loop-session-item.result in
    let reports = c.args.reports.now in
    let said = c.args.said.now in
    let split : said ≡ take i said ++ item ∷ drop (i + 1) said = split_next said i item c.loop-session-test.true c.loop-session-item.is in
    let e = err_from_is_err_and c.from_residual-in_err-match_frame.result c.from_residual-in_err-match_frame.ensures.1 in
    rw (e.1, e.2) (denies_weaker _ _
    (λ b. (
      each_between (λ (a : Saying). IsWithin (length reports) a.0) (take i said) (drop (i + 1) said) item (subst (AllByRecursion (λ (a : Saying). IsWithin (length reports) a.0)) split b.0),
      subst (AreWritten reports) split b.1,
    ))
    c.in_err-match_frame.field-0.0
    (c.in_err-match_frame.ensures.err (take i said) (drop (i + 1) said) item.1 (c.as_slice.ensures.value ∙ c.in_ok-frame.ensures) c.loop-session.invariant))

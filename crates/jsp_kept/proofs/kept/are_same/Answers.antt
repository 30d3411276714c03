use Rattle.std.proofs.Common.{◌≡◌, ◌∙◌, ℕ, List, get_or, arith, subst, sym, refl}
use Rattle.std.proofs.lemmas.List.{take_all, take_more_same}
use Rattle.std.proofs.lemmas.Slice.Eq.{bytes_eq-Decides}
use Rattle.jsp_kept.proofs.kept.are_same.Goals as goal

pub loop-i-init : goal.loop-i-init
loop-i-init c = refl

pub loop-i-preserved : goal.loop-i-preserved
loop-i-preserved c =
    let i = c.loop-i.i in
    let ours = c.index-ours-i.result in
    let same : ours ≡ c.index-others-i.result = (bytes_eq-Decides _ _).0 (sym (c.is.ensures) ∙ c.if-not-is.false) ∙ c.as_str.ensures in
    take_more_same c.args.ours.now c.args.others.now i ours c.loop-i-test.true (omega (arith, c.loop-i-test.true, c.if-ours-others.false)) c.loop-i.invariant
    (sym c.index-ours-i.is ∙ (same ∙ subst (λ (d : List ℕ). c.index-others-i.result ≡ get_or c.args.others.now i d) (sym same) c.index-others-i.is))

pub returns : goal.returns
returns c = λ _.
    let ours = take_all c.loop-i.i c.args.ours.now c.loop-i-test.false in
    let others = take_all c.loop-i.i c.args.others.now (omega (arith, c.loop-i-test.false, c.if-ours-others.false)) in
    sym ours ∙ (c.loop-i.invariant ∙ others)

use Rattle.std.proofs.Common.{◌≡◌, true, false, [], take, subst, arith}
use Rattle.std.specs.List.{AllByRecursion}
use Rattle.std.proofs.lemmas.List.{take_all}
use Rattle.jsp_model.specs.declared.state.Row.{Row}
use Rattle.jsp_model.specs.Lookup.{contains as has}
use Rattle.jsp_decided.specs.Recording.{covers}
use Rattle.jsp_decided.proofs.Sparing.{every, one_spared_more}
use Rattle.jsp_decided.proofs.pending.are_numbers_uncovered.Goals as goal

pub numbers-init : goal.numbers-init
numbers-init c = every (λ (r : Row). has [] r.number ≡ true → covers c.args.recorded.now r.space ≡ false) (λ r is. absurd (cc)) c.args.stored.now

pub numbers-preserved : goal.numbers-preserved
numbers-preserved c = one_spared_more c.args.recorded.now c.args.numbers.now c.numbers.number-index c.args.stored.now c.numbers-test.true c.numbers.invariant c.if-not-is_number_uncovered.ensures

pub returns : goal.returns
returns c =
    let whole : take c.numbers.number-index c.args.numbers.now ≡ c.args.numbers.now = take_all c.numbers.number-index c.args.numbers.now (omega (arith, c.numbers-test.false)) in
    subst (λ ns. AllByRecursion (λ (r : Row). has ns r.number ≡ true → covers c.args.recorded.now r.space ≡ false) c.args.stored.now) whole c.numbers.invariant

use Rattle.std.proofs.Common.{false, arith, sym, subst, ◌≡◌, ◌∙◌}
use Rattle.std.specs.Prelude.{Option, IfSome}
use Rattle.jsp_model.specs.declared.step.Step.{Step}
use Rattle.jsp_model.specs.Quiet.{is_quiet}
use Rattle.jsp_house.proofs.Places.{all_quiet_of, one_unquiet_of}
use Rattle.jsp_house.proofs.quieting.quieting_of.Goals as goal

pub returns-in-Some-clause-some : goal.returns-in-Some-clause-some
returns-in-Some-clause-some c =
    let st = c.args.image.now in
    let space = c.places.space in
    one_unquiet_of st c.args.spaces.now space (sym c.contains.ensures ∙ c.if-contains.true)
    (subst (λ (o : Option Step). IfSome o (λ s. is_quiet st space ≡ false)) c.in-Some.is c.in_ok-step.ensures.some)

pub returns-clause-none : goal.returns-clause-none
returns-clause-none c =
    all_quiet_of c.args.image.now c.args.spaces.now c.count_spaces-count.ensures.limits (λ p low. c.places.invariant p (omega (arith, low, c.places-test.false, c.count_spaces-count.ensures.count)))

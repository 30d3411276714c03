use Rattle.std.proofs.Common.{◌≡◌, sym, subst, true, false, true≢false}
use Rattle.jsp_model.specs.Limits.{IsWithinLimits}
use Rattle.jsp_core.specs.Offering.{are_offered, are_stirred}
use Rattle.jsp_core.proofs.Offering.{any_offered, any_stirred}
use Rattle.jsp_core.proofs.live.LiveImage.of.Goals as goal

pub invariant_of-result : goal.invariant_of-result
invariant_of-result c = (
  subst IsWithinLimits (sym c.in_ok-state.ensures) c.image.invariant,
  subst (λ o. are_offered o c.in_ok-state.state ≡ true) (sym c.any.ensures) (any_offered c.in_ok-state.state),
  subst (λ o. are_stirred o c.in_ok-state.state ≡ true) (sym c.any-2.ensures) (any_stirred c.in_ok-state.state),
  λ known. absurd (true≢false (sym known)),
)

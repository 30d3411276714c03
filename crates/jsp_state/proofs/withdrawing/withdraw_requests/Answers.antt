use Rattle.std.proofs.Common.{◌≡◌, sym, subst, true}
use Rattle.jsp_core.specs.Offering.{are_stirred}
use Rattle.jsp_state.proofs.Stirred.{kept_stirred, nobody_stirred, nobody_waits}
use Rattle.jsp_state.proofs.withdrawing.withdraw_requests.Goals as goal

pub invariant_of-image : goal.invariant_of-image
invariant_of-image c = (
  c.image.invariant.0,
  c.image.invariant.1,
  subst (λ o. are_stirred o c.image.inside.state ≡ true) (sym c.close.ensures) (nobody_waits c.image.inside.state c.if-nobody_waits.ensures),
  c.image.invariant.3,
)

pub invariant_of-image-then-is_some : goal.invariant_of-image-then-is_some
invariant_of-image-then-is_some c = (
  c.image.invariant.0,
  c.image.invariant.1,
  subst (λ o. are_stirred o c.image.inside.state ≡ true) (sym c.keep.ensures) (kept_stirred c.image.inside.state c.image.inside.stirred c.image.invariant.2),
  c.image.invariant.3,
)

pub invariant_of-image-then-is_nobody_freed : goal.invariant_of-image-then-is_nobody_freed
invariant_of-image-then-is_nobody_freed c = (
  c.image.invariant.0,
  c.image.invariant.1,
  subst (λ o. are_stirred o c.image.inside.state ≡ true) (sym c.close-then-is_nobody_freed.ensures) (nobody_stirred c.image.inside.state c.if-is_nobody_freed.ensures),
  c.image.invariant.3,
)

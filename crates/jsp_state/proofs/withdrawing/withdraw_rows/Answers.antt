use Rattle.std.proofs.Common.{◌≡◌, sym, subst, true}
use Rattle.jsp_core.specs.Offering.{are_offered}
use Rattle.jsp_state.proofs.OnOffer.{kept_of, none_offered, none_waits}
use Rattle.jsp_state.proofs.withdrawing.withdraw_rows.Goals as goal

pub invariant_of-image : goal.invariant_of-image
invariant_of-image c = (
  c.image.invariant.0,
  subst (λ o. are_offered o c.image.inside.state ≡ true) (sym c.close.ensures) (none_waits c.image.inside.state c.if-nobody_waits.ensures),
  c.image.invariant.2,
  c.image.invariant.3,
)

pub invariant_of-image-then-is_some : goal.invariant_of-image-then-is_some
invariant_of-image-then-is_some c = (
  c.image.invariant.0,
  subst (λ o. are_offered o c.image.inside.state ≡ true) (sym c.keep.ensures) (kept_of c.image.inside.state c.image.inside.offers c.image.invariant.0.rows.rising c.image.invariant.1),
  c.image.invariant.2,
  c.image.invariant.3,
)

pub invariant_of-image-then-is_nothing_wanted : goal.invariant_of-image-then-is_nothing_wanted
invariant_of-image-then-is_nothing_wanted c = (
  c.image.invariant.0,
  subst (λ o. are_offered o c.image.inside.state ≡ true) (sym c.close-then-is_nothing_wanted.ensures) (none_offered c.image.inside.state c.if-is_nothing_wanted.ensures),
  c.image.invariant.2,
  c.image.invariant.3,
)

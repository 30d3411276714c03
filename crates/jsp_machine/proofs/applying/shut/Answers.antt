use Rattle.std.proofs.Common.{◌≡◌, ◌∙◌, ap, sym, subst, true}
use Rattle.jsp_model.specs.declared.state.State.{State}
use Rattle.jsp_model.specs.declared.step.Step.TheVariants as step
use Rattle.jsp_model.specs.Lookup.{is_open}
use Rattle.jsp_model.specs.Steps.{next}
use Rattle.jsp_model.specs.Limits.{IsWithinLimits}
use Rattle.jsp_machine.proofs.Stepping.{shut_is, limits_shut, steady_shut}
use Rattle.jsp_quiet.specs.Steady.{IsSteady}
use Rattle.jsp_core.specs.Offering.{are_offered, are_stirred}
use Rattle.jsp_machine.proofs.OnOffer.{offered_shut}
use Rattle.jsp_machine.proofs.Stirred.{stirred_shut}
use Rattle.jsp_machine.proofs.applying.shut.Goals as goal

pub invariant_of-image : goal.invariant_of-image
invariant_of-image c =
    let here = subst (λ (w : State). is_open w c.args.session ≡ true) (sym c.image.view_is) c.requires in (
      subst IsWithinLimits (sym c.close.ensures) (limits_shut c.image.inside.state c.args.session c.image.invariant.0 here),
      subst (λ st. are_offered c.image.inside.offers st ≡ true) (sym c.close.ensures) (offered_shut c.image.inside.state c.args.session c.image.inside.offers c.image.invariant.1),
      subst (λ st. are_stirred c.image.inside.stirred st ≡ true) (sym c.close.ensures) (stirred_shut c.image.inside.state c.args.session c.image.inside.stirred c.image.invariant.2),
      λ known. subst IsSteady (sym c.close.ensures) (steady_shut c.image.inside.state c.args.session here (c.image.invariant.3 known)),
    )

pub returns : goal.returns
returns c = c.close.ensures ∙ shut_is c.image.inside.state c.args.session ∙ ap (λ (w : State). next w (step.Shut c.args.session)) c.image.view_is

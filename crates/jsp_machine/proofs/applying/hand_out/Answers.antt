use Rattle.std.proofs.Common.{◌≤◌, ◌∙◌, ap, sym, subst, length}
use Rattle.std.proofs.lemmas.Result.{on_ok_weaker}
use Rattle.jsp_model.specs.declared.state.State.{State}
use Rattle.jsp_model.specs.declared.step.Step.TheVariants as step
use Rattle.jsp_model.specs.Outboxes.{outbox_of}
use Rattle.jsp_model.specs.Steps.{next}
use Rattle.jsp_model.proofs.Apart.{next_handed}
use Rattle.jsp_state.specs.Outboxes.{after_handing}
use Rattle.jsp_machine.proofs.Stepping.{limits_handed, limits_either, steady_handed, steady_either}
use Rattle.jsp_machine.proofs.OnOffer.{offered_handed}
use Rattle.jsp_machine.proofs.Stirred.{stirred_handed}
use Rattle.jsp_machine.proofs.applying.hand_out.Goals as goal

pub invariant_of-image : goal.invariant_of-image
invariant_of-image c =
    let st = c.image.inside.state in
    let there = subst (λ (w : State). c.args.count ≤ length (outbox_of w c.args.session)) (sym c.image.view_is) c.requires.there in (
      limits_either c.hand_out.result st (after_handing st c.args.session c.args.count) c.hand_out.new.state c.image.invariant.0
          (limits_handed st c.args.session c.args.count c.image.invariant.0 c.requires.some there)
          c.hand_out.ensures.ok
          c.hand_out.ensures.err,
      offered_handed c.hand_out.result st c.args.session c.args.count c.hand_out.new.state c.image.inside.offers c.hand_out.ensures.ok c.hand_out.ensures.err c.image.invariant.1,
      stirred_handed c.hand_out.result st c.args.session c.args.count c.hand_out.new.state c.image.inside.stirred c.hand_out.ensures.ok c.hand_out.ensures.err c.image.invariant.2,
      λ known. steady_either c.hand_out.result st (after_handing st c.args.session c.args.count) c.hand_out.new.state (steady_handed st c.args.session c.args.count c.requires.some there) c.hand_out.ensures.ok c.hand_out.ensures.err (c.image.invariant.3 known),
    )

pub returns-clause-ok : goal.returns-clause-ok
returns-clause-ok c =
    on_ok_weaker c.hand_out.result
    (λ e. e ∙ sym (next_handed c.image.inside.state c.args.session c.args.count) ∙ ap (λ (w : State). next w (step.HandOut c.args.session c.args.count)) c.image.view_is)
    c.hand_out.ensures.ok

pub returns-clause-limits : goal.returns-clause-limits
returns-clause-limits c = (invariant_of-image c).0

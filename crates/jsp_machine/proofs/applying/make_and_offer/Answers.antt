use Rattle.std.proofs.Common.{◌∙◌, ap, sym, subst, ◌≤◌, ◌<◌}
use Rattle.std.specs.Prelude.{IsTrue}
use Rattle.std.proofs.lemmas.Result.{on_ok_weaker, on_err_weaker}
use Rattle.jsp_model.specs.declared.state.State.{State}
use Rattle.jsp_model.specs.Steps.{is_legal, next}
use Rattle.jsp_limits.proofs.Steps.{limits_stay}
use Rattle.jsp_quiet.proofs.Steady.{steady_step}
use Rattle.jsp_machine.proofs.Stepping.{limits_either, steady_either}
use Rattle.jsp_machine.proofs.OnOffer.{offered_either}
use Rattle.jsp_machine.proofs.Stirred.{stirred_either}
use Rattle.jsp_machine.proofs.applying.make_and_offer.Goals as goal

pub stir-requires : goal.stir-requires
stir-requires c = c.image.invariant.0.rows.rising

pub invariant_of-image : goal.invariant_of-image
invariant_of-image c =
    let st = c.image.inside.state in
    let act = c.args.step.now in
    let legal = subst (λ (w : State). IsTrue (is_legal w act)) (sym c.image.view_is) c.requires.legal in
    let limits = limits_either c.make-made.result st (next st act) c.make-made.new.state c.image.invariant.0
    (limits_stay st act c.image.invariant.0 legal c.keeps_its_request.ensures)
    c.make-made.ensures.ok
    c.make-made.ensures.err in (
      limits,
      offered_either c.make-made.result st act c.make-made.new.state c.image.inside.is_steady c.image.inside.offers c.offer_let_go.new.offers c.add_between.new.self c.image.invariant.3 limits c.make-made.ensures.ok c.make-made.ensures.err
          c.image.invariant.1 c.offer_let_go.ensures.any c.offer_let_go.ensures.freed c.offer_let_go.ensures.keeps
          (λ n from to. c.add_between.ensures.added n (subst (λ m. m ≤ n) (sym c.next_number-first_new.ensures) from) (subst (λ m. n < m) (sym c.next_number-past_new.ensures) to)) c.add_between.ensures.keeps,
      stirred_either c.make-made.result st act c.make-made.new.state c.image.inside.is_steady c.image.inside.stirred c.stir.new.stirred c.image.invariant.3 c.make-made.ensures.ok c.make-made.ensures.err c.image.invariant.0.rows.rising legal
          c.image.invariant.2 c.stir.ensures.any c.stir.ensures.stirred c.stir.ensures.keeps,
      λ known. steady_either c.make-made.result st (next st act) c.make-made.new.state (steady_step st act legal) c.make-made.ensures.ok c.make-made.ensures.err (c.image.invariant.3 known),
    )

pub returns : goal.returns
returns c = record {
  ok = on_ok_weaker c.make-made.result (λ e. e ∙ ap (λ (w : State). next w c.args.step.now) c.image.view_is) c.make-made.ensures.ok;
  err = on_err_weaker c.make-made.result (λ e. e ∙ c.image.view_is) c.make-made.ensures.err;
  limits = (invariant_of-image c).0;
}

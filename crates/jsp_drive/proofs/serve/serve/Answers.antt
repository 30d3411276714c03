use Rattle.std.proofs.Common.{◌∙◌, refl, sym, subst}
use Rattle.jsp_model.specs.declared.house.Input.{Input}
use Rattle.jsp_drive.specs.Calls.{ActsOn}
use Rattle.jsp_drive.proofs.Serving.{goes_start, goes_more, less_left}
use Rattle.jsp_drive.proofs.serve.serve.Goals as goal

pub frames-init : goal.frames-init
frames-init g c = (refl, goes_start _ _ _ _ c.requires.line)

pub frames-smaller : goal.frames-smaller
frames-smaller g c = less_left c.frames.line c.next_with.new.self c.in-Input.input (rw c.in-Input.is at c.in_ok-input.ensures.ok)

pub frames-preserved : goal.frames-preserved
frames-preserved g c =
    let given = rw c.in-Input.is at c.in_ok-input.ensures.ok in
    let st = g.H.House.view c.frames.house in
    let acts = subst (λ (x : Input). ActsOn st (g.H.House.view c.act_on.new.house) c.frames.steps.items c.act_on.new.steps.items x) c.of_session.ensures.value c.in_ok-act_on-in-Input.ensures.acts in
    let accepted = rw c.of_session.ensures.value at c.of_session.ensures.accepted st in (
      c.in_ok-act_on-in-Input.ensures.bound ∙ c.frames.invariant.0,
      goes_more _ _ _ _ _ _ _ _ _ _ c.in-Input.input c.frames.invariant.1 (sym c.is_open.ensures ∙ c.frames-test.true) given acts accepted,
    )

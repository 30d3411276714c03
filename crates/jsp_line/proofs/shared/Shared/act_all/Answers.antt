use Rattle.std.proofs.Common.{ap, refl, ◌∙◌, ◌++◌}
use Rattle.jsp_model.specs.House.{step_of}
use Rattle.jsp_drive.specs.Line.{input_of}
use Rattle.jsp_line.specs.Reading.{is_closing}
use Rattle.jsp_line.proofs.Turning.{acts_none, acts_more, acts_end, acts_all, acts_stopped, acts_early}
use Rattle.jsp_line.proofs.shared.Shared.act_all.Goals as goal

pub loop-init : goal.loop-init
loop-init g c = (refl, λ stream asked gave. acts_none _ stream asked _ _ gave)

pub loop-preserved : goal.loop-preserved
loop-preserved g c =
    let same = c.loop.invariant.0 in
    let s = c.args.seat.now.session in (
      c.act_one.ensures.session ∙ same,
      λ stream asked gave.
          let w = c.loop.invariant.1 stream asked gave in
          acts_more s stream asked _ _ _ _ _ (step_of (input_of s c.in-Ok-Input.given)) w (rw c.in-Ok-Input.field-0-is at c.in-Ok-Input.ensures.stream s stream (asked ++ w.more) w.gave) c.in_default.ensures.acts,
    )

pub returns-in-Some-act_one-clause-acts : goal.returns-in-Some-act_one-clause-acts
returns-in-Some-act_one-clause-acts g c = λ stream asked gave.
    let s = c.args.seat.now.session in
    let x = c.in-Ok-Input.given in
    let w = c.loop.invariant.1 stream asked gave in
    acts_end s stream asked _ _ _ _ _ (step_of (input_of s x)) c.in-Some-act_one.ended _ w (rw c.in-Ok-Input.field-0-is at c.in-Ok-Input.ensures.stream s stream (asked ++ w.more) w.gave)
    (ap (λ k. is_closing (step_of (input_of k x))) c.loop.invariant.0) c.in-Some-act_one.ensures.acts

pub returns-in-Some-act_one-clause-early : goal.returns-in-Some-act_one-clause-early
returns-in-Some-act_one-clause-early g c = acts_early c.in-Some-act_one.ended _ _ _ c.in-Some-act_one.ensures.acts

pub returns-in-Ok-More-clause-acts : goal.returns-in-Ok-More-clause-acts
returns-in-Ok-More-clause-acts g c = λ stream asked gave.
    let w = c.loop.invariant.1 stream asked gave in
    let all = rw c.in-Ok-More.field-0-is at c.in-Ok-More.ensures.stream c.args.seat.now.session stream (asked ++ w.more) w.gave in
    acts_all _ stream asked _ _ _ _ _ w all.0 all.1

pub returns-in-Ok-Closed-clause-acts : goal.returns-in-Ok-Closed-clause-acts
returns-in-Ok-Closed-clause-acts g c = λ stream asked gave.
    let w = c.loop.invariant.1 stream asked gave in
    let all = rw c.in-Ok-Closed.field-0-is at c.in-Ok-Closed.ensures.stream c.args.seat.now.session stream (asked ++ w.more) w.gave in
    acts_all _ stream asked _ _ _ _ _ w all.0 all.1

pub returns-in-Err-clause-acts : goal.returns-in-Err-clause-acts
returns-in-Err-clause-acts g c = λ stream asked gave. acts_stopped _ stream asked _ _ _ _ c.in-Err.ensures.err (c.loop.invariant.1 stream asked gave)

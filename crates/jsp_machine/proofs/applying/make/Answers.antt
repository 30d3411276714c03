use Rattle.std.proofs.Common.{◌∙◌, ap, refl, subst, sym}
use Rattle.std.specs.Prelude.{fold}
use Rattle.jsp_model.specs.declared.state.State.{State}
use Rattle.jsp_model.specs.Steps.{change}
use Rattle.jsp_model.specs.Limits.{IsWithinLimits}
use Rattle.jsp_model.specs.Outboxes.{post}
use Rattle.jsp_machine.specs.Changing.{has_its_choice}
use Rattle.jsp_machine.specs.Judging.{judged_in}
use Rattle.jsp_machine.proofs.JudgedRequests.{judged_apart}
use Rattle.jsp_machine.proofs.Chosen.{choice_apart, legal_choice}
use Rattle.jsp_machine.proofs.Stepping.{limits_posted, step_made}
use Rattle.jsp_machine.proofs.applying.make.Goals as goal

pub change-requires-clause-limits : goal.change-requires-clause-limits
change-requires-clause-limits c =
    let st = c.args.state.now in
    subst IsWithinLimits (sym c.in_ok-posts.ensures.ok) (limits_posted st c.args.sayings.items (fold post st.outboxes c.args.sayings.items) c.requires.limits refl)

pub change-requires-clause-choice : goal.change-requires-clause-choice
change-requires-clause-choice c =
    let st = c.args.state.now in
    ap (λ (w : State). has_its_choice w c.args.step.now) c.in_ok-posts.ensures.ok
    ∙ (choice_apart (fold post st.outboxes c.args.sayings.items) st c.args.step.now ∙ legal_choice st c.args.step.now c.requires.legal)

pub change-requires-clause-judged : goal.change-requires-clause-judged
change-requires-clause-judged c =
    let st = c.args.state.now in
    c.requires.judged ∙ sym (ap (λ (w : State). judged_in w c.args.step.now) c.in_ok-posts.ensures.ok ∙ judged_apart (fold post st.outboxes c.args.sayings.items) st c.args.step.now)

pub returns-clause-ok : goal.returns-clause-ok
returns-clause-ok c =
    let st = c.args.state.now in
    step_made st c.args.step.now c.args.sayings.items (fold post st.outboxes c.args.sayings.items) c.change.new.state c.requires.no_hand_out c.requires.sayings refl
    (c.in_default.ensures.ok ∙ ap (λ (w : State). change w c.args.step.now) c.in_ok-posts.ensures.ok)

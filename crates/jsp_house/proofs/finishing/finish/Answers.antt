use Rattle.std.proofs.Common.{◌≡◌, ◌∙◌, true, refl, ap, subst, arith}
use Rattle.std.specs.Prelude.{option_copied}
use Rattle.jsp_model.specs.declared.state.State.{State}
use Rattle.jsp_model.specs.House.{is_unasked, Covers}
use Rattle.jsp_model.specs.Steps.{is_legal, next}
use Rattle.jsp_model.specs.Touches.{touches}
use Rattle.jsp_house.specs.Making.{KeepsLog}
use Rattle.jsp_quiet.proofs.Falls.{free_falls}
use Rattle.jsp_machine.proofs.JudgedRequests.{unasked_plain}
use Rattle.jsp_house.proofs.Going.{goes_start, goes_none, goes_more, falls_to, some_undone}
use Rattle.jsp_house.proofs.Logging.{keeps_none, keeps_both}
use Rattle.jsp_house.proofs.finishing.finish.Goals as goal

pub steps-init : goal.steps-init
steps-init g c = (
  goes_start c.args.image.now c.args.debt.now.items c.args.log.now.items,
  keeps_none c.args.image.now c.args.image.now c.args.bound _ _ refl refl (omega arith),
  λ d. (refl, refl, refl),
)

pub make_owing-requires-clause-judged : goal.make_owing-requires-clause-judged
make_owing-requires-clause-judged g c = unasked_plain c.next_step.new.image c.in-Some.step (rw c.in-Some.is at c.in_ok-step.ensures.unasked)

pub steps-smaller : goal.steps-smaller
steps-smaller g c =
    let legal : is_legal c.steps.image c.in-Some.step ≡ true = rw c.in-Some.is at c.in_ok-step.ensures.legal in
    let free : is_unasked c.in-Some.step ≡ true = rw c.in-Some.is at c.in_ok-step.ensures.unasked in
    let made = c.in_ok-make_owing.ensures.made ∙ ap (λ (st : State). next st c.in-Some.step) c.next_step.ensures.same in
    falls_to c.steps.image c.make_owing.new.image c.in-Some.step made (free_falls c.steps.image c.in-Some.step legal free)

pub steps-preserved : goal.steps-preserved
steps-preserved g c =
    let legal : is_legal c.steps.image c.in-Some.step ≡ true = rw c.in-Some.is at c.in_ok-step.ensures.legal in
    let free : is_unasked c.in-Some.step ≡ true = rw c.in-Some.is at c.in_ok-step.ensures.unasked in
    let not_done = some_undone g.T.Coming.step (option_copied c.args.to_come) c.args.image.now c.steps.image c.args.debt.now.items c.steps.debt.items _ _ c.steps.invariant.2 (rw (c.as_slice.ensures.value, c.in-Some.is) at c.in_ok-step.ensures.some) in
    let same = c.next_step.ensures.same in
    let more = c.in_ok-make_owing.ensures in
    let made = more.made ∙ ap (λ (st : State). next st c.in-Some.step) same in
    let owes = subst (λ (st : State). Covers c.make_owing.new.debt.items (touches st c.in-Some.step)) same more.owes in
    let keeps = subst (λ (st : State). KeepsLog st c.make_owing.new.image c.args.bound c.steps.log c.make_owing.new.log) same more.keeps in (
      goes_more c.args.image.now c.steps.image c.make_owing.new.image c.args.debt.now.items c.steps.debt.items c.make_owing.new.debt.items c.args.log.now.items c.steps.log.items c.make_owing.new.log.items
          c.in-Some.step c.steps.invariant.0 free legal (rw (c.as_slice.ensures.value, c.in-Some.is) at c.in_ok-step.ensures.turn) made more.log more.stays owes c.make_owing.ensures.once,
      keeps_both c.args.image.now c.steps.image c.make_owing.new.image c.args.bound _ _ _ c.steps.invariant.1 keeps,
      λ d. absurd (not_done d),
    )

pub returns-in_err-make_owing-clause-goes : goal.returns-in_err-make_owing-clause-goes
returns-in_err-make_owing-clause-goes g c =
    let none = c.in_err-make_owing.ensures in
    goes_none c.args.image.now c.steps.image c.make_owing.new.image c.args.debt.now.items c.steps.debt.items c.make_owing.new.debt.items c.args.log.now.items c.steps.log.items c.make_owing.new.log.items
    c.steps.invariant.0 none.stays none.once (none.err.0 ∙ c.next_step.ensures.same) none.err.1

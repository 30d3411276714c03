use Rattle.std.proofs.Common.{◌≡◌, ◌++◌, ◌∷◌, [], List, length, map, ap, refl, sym, ◌∙◌, subst, append_assoc, map-id}
use Rattle.std.proofs.lemmas.Iterator.Adapters.{YieldsList-from_vec}
use Rattle.std.proofs.lemmas.Iterator.Consumers.{YieldsList-turn, YieldsList-end}
use Rattle.std.proofs.lemmas.Result.{err_from_is_err_and}
use Rattle.jsp_model.specs.declared.step.Step.{Step}
use Rattle.jsp_closing.specs.Asking.{CanBe, unasked_in}
use Rattle.jsp_closing.proofs.Denying.{denies_weaker}
use Rattle.jsp_closing.proofs.Histories.{as_many, can_ask, next_wanted, no_more_wanted}
use Rattle.jsp_closing.proofs.Rereading.{again_more}
use Rattle.jsp_closing.proofs.asked.ask_again.Goals as goal

pub loop-step-init : goal.loop-step-init
loop-step-init c = rw c.new-asked.ensures.items (c.requires, refl, λ history can. (history, refl))

pub loop-step-preserved : goal.loop-step-preserved
loop-step-preserved c =
    let h = c.loop-step.invariant in
    let reports = c.args.reports.now in
    let asked = c.loop-step.asked.items in
    let f = unasked_in reports in
    let given = c.into_iter-step-iterator.ensures.into_iter_gives in
    let turn = YieldsList-turn (YieldsList-from_vec {s = c.into_iter-step-iterator.result} c.args.steps.items given.0 (given.1 ∙ c.args.steps.ok.0)) c.loop-step.yielded c.loop-step.step-iterator c.loop-step.yielded_by c.next.result c.next.new.self c.in-Some.step c.in-Some.is c.next.ensures.steps in (
      rw c.in_ok-add_step.ensures (c.in_ok-again.ensures.gave asked h.0),
      rw c.in_ok-add_step.ensures (again_more f c.loop-step.yielded asked c.in-Some.step c.in_ok-again.again h.1 c.in_ok-again.ensures.same),
      λ history can. (
          let before = h.2 history can in
          let can : CanBe reports history c.args.steps.items = subst (CanBe reports history) given.0 can in
          let w = next_wanted f history c.args.steps.items asked before.0 (length c.loop-step.yielded) c.in-Some.step can.same (as_many f asked c.loop-step.yielded h.1) before.1 turn.0 turn.1 in
          let is : history ≡ asked ++ w.0 ∷ w.1 = before.1 ∙ ap (λ (xs : List Step). asked ++ xs) w.2 in
          let again : w.0 ≡ c.in_ok-again.again = c.in_ok-again.ensures.only w.0 (can_ask reports c.loop-step.lines.items history c.args.steps.items asked w.1 w.0 c.in-Some.step h.0 can is w.3) in
          (w.1, rw c.in_ok-add_step.ensures (is ∙ ap (λ (x : Step). asked ++ x ∷ w.1) again ∙ sym (append_assoc asked (c.in_ok-again.again ∷ []) w.1)))),
    )

pub returns-in_err-again-clause-err : goal.returns-in_err-again-clause-err
returns-in_err-again-clause-err c =
    let h = c.loop-step.invariant in
    let reports = c.args.reports.now in
    let asked = c.loop-step.asked.items in
    let f = unasked_in reports in
    let given = c.into_iter-step-iterator.ensures.into_iter_gives in
    let turn = YieldsList-turn (YieldsList-from_vec {s = c.into_iter-step-iterator.result} c.args.steps.items given.0 (given.1 ∙ c.args.steps.ok.0)) c.loop-step.yielded c.loop-step.step-iterator c.loop-step.yielded_by c.next.result c.next.new.self c.in-Some.step c.in-Some.is c.next.ensures.steps in
    let e = err_from_is_err_and c.from_residual.result c.from_residual.ensures.1 in
    rw (e.1, e.2) (denies_weaker _ _
    (λ some.
    let before = h.2 some.0 (subst (CanBe reports some.0) (sym given.0) some.1) in
    let w = next_wanted f some.0 c.args.steps.items asked before.0 (length c.loop-step.yielded) c.in-Some.step some.1.same (as_many f asked c.loop-step.yielded h.1) before.1 turn.0 turn.1 in
    let is : some.0 ≡ asked ++ w.0 ∷ w.1 = before.1 ∙ ap (λ (xs : List Step). asked ++ xs) w.2 in
    (w.0, can_ask reports c.loop-step.lines.items some.0 c.args.steps.items asked w.1 w.0 c.in-Some.step h.0 some.1 is w.3))
    c.in_err-again.field-0.0 c.in_err-again.ensures.err)

pub returns-clause-only : goal.returns-clause-only
returns-clause-only c = λ history can.
    let h = c.loop-step.invariant in
    let f = unasked_in c.args.reports.now in
    let given = c.into_iter-step-iterator.ensures.into_iter_gives in
    let end' = YieldsList-end (YieldsList-from_vec {s = c.into_iter-step-iterator.result} c.args.steps.items given.0 (given.1 ∙ c.args.steps.ok.0)) c.loop-step.yielded c.loop-step.step-iterator c.loop-step.yielded_by c.next.result c.next.new.self c.in-None.is c.next.ensures.steps in
    let all : c.loop-step.yielded ≡ c.args.steps.items = sym (map-id c.loop-step.yielded) ∙ end'.0 in
    let before = h.2 history (subst (CanBe c.args.reports.now history) (sym given.0) can) in
    no_more_wanted f history c.args.steps.items c.loop-step.asked.items before.0 can.same (h.1 ∙ ap (λ (xs : List Step). map f xs) all) before.1

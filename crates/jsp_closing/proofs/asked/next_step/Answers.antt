use Rattle.std.proofs.Common.{sym, ◌∙◌}
use Rattle.std.proofs.lemmas.Result.{IfErr-weaker, IfOk-weaker}
use Rattle.jsp_closing.proofs.Denying.{denies_weaker}
use Rattle.jsp_closing.proofs.Histories.{short_is, whole_can_give}
use Rattle.jsp_closing.proofs.Rereading.{again_same, given_left, given_more}
use Rattle.jsp_closing.proofs.asked.next_step.Goals as goal

pub returns-then-asks_short-clause-gave : goal.returns-then-asks_short-clause-gave
returns-then-asks_short-clause-gave c = λ steps h. given_left c.args.reports.now _ steps c.args.step h (sym c.asks_short.ensures ∙ c.if-asks_short.true)

pub returns-clause-gave : goal.returns-clause-gave
returns-clause-gave c = IfOk-weaker c.step_again.result _ _ (λ again one steps h. given_more c.args.reports.now _ _ steps again h one) c.step_again.ensures.gave

pub returns-clause-same : goal.returns-clause-same
returns-clause-same c = IfOk-weaker c.step_again.result _ _ (λ again same. again_same c.args.reports.now c.args.step again (sym c.asks_short.ensures ∙ c.if-asks_short.false) same) c.step_again.ensures.same

pub returns-then-asks_short-clause-only : goal.returns-then-asks_short-clause-only
returns-then-asks_short-clause-only c = λ wanted h. short_is c.args.reports.now c.args.lines.now.items wanted c.args.step (sym c.asks_short.ensures ∙ c.if-asks_short.true) h

pub returns-clause-only : goal.returns-clause-only
returns-clause-only c =
    IfOk-weaker c.step_again.result _ _
    (λ again only wanted h. only wanted (whole_can_give c.args.reports.now c.args.lines.now.items wanted c.args.step (sym c.asks_short.ensures ∙ c.if-asks_short.false) h))
    c.step_again.ensures.only

pub returns-clause-err : goal.returns-clause-err
returns-clause-err c =
    IfErr-weaker c.step_again.result _ _
    (λ e denies. denies_weaker _ _ (λ h. (h.0, whole_can_give c.args.reports.now c.args.lines.now.items h.0 c.args.step (sym c.asks_short.ensures ∙ c.if-asks_short.false) h.1)) e denies)
    c.step_again.ensures.err

use Rattle.std.proofs.Common.{◌≡◌, ◌∙◌, List, map, subst, sym, rules}
use Rattle.std.proofs.lemmas.List.Sorted.{IsNonDecreasingBy-from_sort_by_key}
use Rattle.std.proofs.lemmas.Result.{err_from_is_err_and}
use Rattle.jsp_model.specs.Lookup.{empty}
use Rattle.jsp_closing.specs.declared.closed.LineReport.{LineReport}
use Rattle.jsp_closing.specs.Asking.{unasked_in}
use Rattle.jsp_closing.specs.Closing.{IsWhole}
use Rattle.jsp_closing.proofs.Denying.{denies_weaker}
use Rattle.jsp_closing.proofs.Whole.{sorted_lines, whole_can_be}
use Rattle.jsp_closing.proofs.closing.close_whole.Goals as goal

pub returns-in_err-steps-clause-err : goal.returns-in_err-steps-clause-err
returns-in_err-steps-clause-err c =
    let config = c.args.config.now in
    let steps = c.args.steps.items in
    let sorted = c.sort_by_key.new.self.items in
    let rising = IsNonDecreasingBy-from_sort_by_key (λ (r : LineReport). r.session) sorted c.in_ok-sort_by_key.ensures.sorted (λ a r q k. search rules) in
    let e = err_from_is_err_and c.from_residual-in_err-steps.result c.from_residual-in_err-steps.ensures.1 in
    rw (e.1, e.2) (λ history lines given same. denies_weaker _ _
    (λ whole.
    let is : lines ≡ c.as_slice-2.result.now = sorted_lines (empty config) history c.args.reports.items sorted lines c.in_ok-sort_by_key.ensures.permutation rising given whole.lines ∙ sym c.as_slice-2.ensures.value in
    (history, whole_can_be config history steps c.as_slice-2.result.now (subst (λ (ls : List LineReport). map (unasked_in ls) history ≡ map (unasked_in ls) steps) is same) (subst (IsWhole config history) is whole)))
    c.in_err-steps.field-0.0 c.in_err-steps.ensures.err)

pub returns-in_err-check_whole-clause-err : goal.returns-in_err-check_whole-clause-err
returns-in_err-check_whole-clause-err c =
    let config = c.args.config.now in
    let steps = c.args.steps.items in
    let sorted = c.sort_by_key.new.self.items in
    let rising = IsNonDecreasingBy-from_sort_by_key (λ (r : LineReport). r.session) sorted c.in_ok-sort_by_key.ensures.sorted (λ a r q k. search rules) in
    let e = err_from_is_err_and c.from_residual-in_err-check_whole.result c.from_residual-in_err-check_whole.ensures.1 in
    rw (e.1, e.2) (λ history lines given same. denies_weaker _ _
    (λ whole.
    let ordered : lines ≡ sorted = sorted_lines (empty config) history c.args.reports.items sorted lines c.in_ok-sort_by_key.ensures.permutation rising given whole.lines in
    let is : lines ≡ c.as_slice-2.result.now = ordered ∙ sym c.as_slice-2.ensures.value in
    let can = whole_can_be config history steps c.as_slice-2.result.now (subst (λ (ls : List LineReport). map (unasked_in ls) history ≡ map (unasked_in ls) steps) is same) (subst (IsWhole config history) is whole) in
    let asked = c.in_ok-steps.ensures.only history can in
    subst (λ ls. IsWhole config c.as_slice-3.result.now ls) (ordered ∙ sym c.as_slice-4.ensures.value)
    (subst (λ xs. IsWhole config xs lines) (asked ∙ sym c.as_slice-3.ensures.value) whole))
    c.in_err-check_whole.field-0.0 c.in_err-check_whole.ensures.err)

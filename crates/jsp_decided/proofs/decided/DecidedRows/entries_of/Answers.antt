use Rattle.std.proofs.Common.{◌≡◌, true, false, map, ap, subst, ◌∙◌}
use Rattle.std.specs.List.{AllByRecursion}
use Rattle.std.proofs.lemmas.Result.{IfOk-weaker}
use Rattle.jsp_model.specs.declared.state.Row.{Row}
use Rattle.jsp_model.specs.Lookup.{contains as has}
use Rattle.jsp_decided.specs.Recording.{covers}
use Rattle.jsp_decided.proofs.RowsAfter.{fate_keys, spared_passing}
use Rattle.jsp_decided.proofs.decided.DecidedRows.entries_of.Goals as goal

pub returns-then-are_numbers_uncovered : goal.returns-then-are_numbers_uncovered
returns-then-are_numbers_uncovered c =
    let ds = c.args.self.now.recorded.items in
    let stored = c.args.self.now.stored in
    let ns = c.args.numbers.now in
    let none : AllByRecursion (λ (r : Row). has ns r.number ≡ true → covers ds r.space ≡ false) stored =
    subst (λ ds. AllByRecursion (λ (r : Row). has ns r.number ≡ true → covers ds r.space ≡ false) stored) c.deref.ensures.value c.if-are_numbers_uncovered.ensures in
    IfOk-weaker c.entries_of.result _ _
    (λ es is. is ∙ ap (map (λ (r : Row). r.entry)) (spared_passing (λ (r : Row). has ns r.number) (λ d r s is. ap (has ns) (fate_keys d r s is).number) ds stored none)) c.entries_of.ensures

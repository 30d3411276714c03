use Rattle.std.proofs.Common.{get_or, ap, ◌∙◌, not, eqb}
use Rattle.std.specs.Prelude.{filter}
use Rattle.jsp_model.specs.declared.state.Row.{Row}
use Rattle.jsp_index.proofs.Revisions.{start_left, one_less}
use Rattle.jsp_index.proofs.revising.remove_all.Goals as goal

pub numbers-init : goal.numbers-init
numbers-init c = start_left c.args.numbers.now c.args.rows.now

pub numbers-preserved : goal.numbers-preserved
numbers-preserved c =
    let n = get_or c.args.numbers.now c.numbers.number-index 0 in
    c.remove.ensures ∙ (ap (filter (λ (r : Row). not (eqb r.number n))) c.numbers.invariant ∙ one_less c.args.numbers.now c.numbers.number-index c.args.rows.now c.numbers-test.true)

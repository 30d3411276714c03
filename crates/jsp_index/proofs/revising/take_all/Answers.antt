use Rattle.std.proofs.Common.{get_or, map, Some, cond, ap, ◌∙◌, eqb}
use Rattle.jsp_model.specs.declared.state.Row.{Row}
use Rattle.jsp_index.proofs.Revisions.{start_taken, one_taken}
use Rattle.jsp_index.proofs.revising.take_all.Goals as goal

pub numbers-init : goal.numbers-init
numbers-init c = start_taken c.args.x c.args.numbers.now c.args.rows.now

pub numbers-preserved : goal.numbers-preserved
numbers-preserved c =
    let n = get_or c.args.numbers.now c.numbers.number-index 0 in
    c.take.ensures ∙ (ap (map (λ (r : Row). cond (eqb r.number n) (record r { taker = Some c.args.x }) r)) c.numbers.invariant ∙ one_taken c.args.x c.args.numbers.now c.numbers.number-index c.args.rows.now c.numbers-test.true)

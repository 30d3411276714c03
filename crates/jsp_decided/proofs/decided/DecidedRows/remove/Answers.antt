use Rattle.std.proofs.Common.{not, eqb, ap, ◌∙◌}
use Rattle.jsp_model.specs.declared.state.Row.{Row}
use Rattle.jsp_decided.specs.Recording.{rows_after}
use Rattle.jsp_decided.proofs.RowsAfter.{fate_keys, filter_after}
use Rattle.jsp_decided.proofs.decided.DecidedRows.remove.Goals as goal

pub returns : goal.returns
returns c =
    let ds = c.args.self.now.recorded.items in
    ap (rows_after ds) c.remove.ensures ∙ filter_after (λ (r : Row). not (eqb r.number c.args.number)) (λ d r s is. ap (λ n. not (eqb n c.args.number)) (fate_keys d r s is).number) ds c.args.self.now.stored

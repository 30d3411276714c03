use Rattle.std.proofs.Common.{not, ap, ◌∙◌}
use Rattle.jsp_model.specs.declared.state.Row.{Row}
use Rattle.jsp_model.specs.Lookup.{contains as has}
use Rattle.jsp_decided.specs.Recording.{rows_after}
use Rattle.jsp_decided.proofs.RowsAfter.{fate_keys, filter_after}
use Rattle.jsp_decided.proofs.decided.DecidedRows.remove_all.Goals as goal

pub returns : goal.returns
returns c =
    let ds = c.args.self.now.recorded.items in
    ap (rows_after ds) c.remove_all.ensures ∙ filter_after (λ (r : Row). not (has c.args.numbers.now r.number)) (λ d r s is. ap (λ n. not (has c.args.numbers.now n)) (fate_keys d r s is).number) ds c.args.self.now.stored

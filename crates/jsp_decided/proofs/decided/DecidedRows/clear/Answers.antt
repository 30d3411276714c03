use Rattle.std.proofs.Common.{not, eqb, ap, ◌∙◌}
use Rattle.std.specs.Prelude.{filter}
use Rattle.jsp_model.specs.declared.state.Row.{Row}
use Rattle.jsp_decided.specs.Recording.{rows_after}
use Rattle.jsp_decided.proofs.RowsAfter.{fate_keys, filter_after}
use Rattle.jsp_decided.proofs.decided.DecidedRows.clear.Goals as goal

pub returns-in-Err : goal.returns-in-Err
returns-in-Err c =
    let reset = c.record_reset.new.self in
    let elsewhere : Row → _ = λ (r : Row). not (eqb r.space c.args.space) in
    ap (rows_after reset.recorded.items) c.clear.ensures
    ∙ (filter_after elsewhere (λ d r s is. ap (λ n. not (eqb n c.args.space)) (fate_keys d r s is).space) reset.recorded.items reset.stored ∙ ap (filter elsewhere) (c.in-Err.ensures.err ∙ c.keep_few.ensures))

pub returns-in_default : goal.returns-in_default
returns-in_default c = c.in_default.ensures.ok ∙ ap (filter (λ (r : Row). not (eqb r.space c.args.space))) c.keep_few.ensures

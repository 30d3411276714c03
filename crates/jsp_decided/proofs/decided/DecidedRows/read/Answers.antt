use Rattle.std.proofs.Common.{eqb, ap, ◌∙◌}
use Rattle.std.proofs.lemmas.Result.{on_ok_weaker}
use Rattle.jsp_model.specs.declared.state.Row.{Row}
use Rattle.jsp_model.specs.Lookup.{update}
use Rattle.jsp_sight.specs.Rows.{with_reader}
use Rattle.jsp_decided.specs.Recording.{rows_after}
use Rattle.jsp_decided.proofs.Sparing.{read_after}
use Rattle.jsp_decided.proofs.decided.DecidedRows.read.Goals as goal

pub returns-clause-ok : goal.returns-clause-ok
returns-clause-ok c =
    let ds = c.make_way_at.new.self.recorded.items in
    let n = c.args.number in
    on_ok_weaker c.read.result
    (λ made. ap (rows_after ds) made ∙ (read_after n c.args.x ds c.make_way_at.new.self.stored c.make_way_at.ensures.none ∙ ap (update (λ (r : Row). eqb r.number n) (with_reader c.args.x)) c.make_way_at.ensures.same)) c.read.ensures.ok

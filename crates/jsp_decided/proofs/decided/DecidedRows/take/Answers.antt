use Rattle.std.proofs.Common.{map, ap, ◌∙◌}
use Rattle.std.proofs.lemmas.Result.{on_ok_weaker}
use Rattle.jsp_sight.specs.Rows.{taken_row}
use Rattle.jsp_decided.specs.Recording.{rows_after}
use Rattle.jsp_decided.proofs.Sparing.{taken_after}
use Rattle.jsp_decided.proofs.decided.DecidedRows.take.Goals as goal

pub returns-clause-ok : goal.returns-clause-ok
returns-clause-ok c =
    let ds = c.make_way_at.new.self.recorded.items in
    let ns = c.args.numbers.now in
    on_ok_weaker c.take.result (λ made. ap (rows_after ds) made ∙ (taken_after c.args.x ns ds c.make_way_at.new.self.stored c.make_way_at.ensures.none ∙ ap (map (taken_row c.args.x ns)) c.make_way_at.ensures.same)) c.take.ensures.ok

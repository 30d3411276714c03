use Rattle.std.proofs.Common.{List, length, take, ap, ◌∙◌}
use Rattle.std.specs.Prelude.{filter}
use Rattle.jsp_model.specs.declared.state.Row.{Row}
use Rattle.jsp_sight.specs.Rows.{offered}
use Rattle.jsp_index.specs.Finding.{number}
use Rattle.jsp_index.proofs.Walks.{length_mapped}
use Rattle.jsp_keyed.proofs.Walking.{from_start}
use Rattle.jsp_index.proofs.hinted.HintedRows.count_available.Goals as goal

pub returns : goal.returns
returns c =
    let rows = c.args.self.now in
    let p = offered c.args.classes.now c.args.blocked.now in
    let all = from_start number p rows c.walk.ensures.numbered.positive in
    c.walk.ensures.count ∙ (ap (λ (w : List Row). length (take c.args.most w)) all ∙ length_mapped (λ (r : Row). r.number) c.args.most (filter p rows))

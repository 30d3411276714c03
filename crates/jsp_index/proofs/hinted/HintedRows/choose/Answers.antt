use Rattle.std.proofs.Common.{map, take, List, ap, ◌∙◌}
use Rattle.std.specs.Prelude.{filter}
use Rattle.jsp_model.specs.declared.state.Row.{Row}
use Rattle.jsp_sight.specs.Rows.{offered}
use Rattle.jsp_index.specs.Finding.{number}
use Rattle.jsp_index.proofs.Walks.{map_take}
use Rattle.jsp_keyed.proofs.Walking.{from_start}
use Rattle.jsp_index.proofs.hinted.HintedRows.choose.Goals as goal

pub returns : goal.returns
returns c =
    let rows = c.args.self.now in
    let p = offered c.args.classes.now c.args.blocked.now in
    let all = from_start number p rows c.in_ok-numbers.ensures.numbered.positive in
    c.in_ok-numbers.ensures.found ∙ (ap (λ (w : List Row). map (λ (r : Row). r.number) (take c.args.blocked.now.most w)) all ∙ map_take (λ (r : Row). r.number) c.args.blocked.now.most (filter p rows))

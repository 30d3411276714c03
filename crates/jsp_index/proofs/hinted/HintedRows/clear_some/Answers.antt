use Rattle.std.proofs.Common.{◌==◌, not, ap, ◌∙◌}
use Rattle.std.specs.Prelude.{filter}
use Rattle.jsp_model.specs.declared.state.Row.{Row}
use Rattle.jsp_index.proofs.Spaces.{left_twice}
use Rattle.jsp_index.proofs.hinted.HintedRows.clear_some.Goals as goal

pub returns-clause-same : goal.returns-clause-same
returns-clause-same c =
    let stays : Row → _ = λ (r : Row). not (r.space == c.args.space) in
    ap (filter stays) c.clear.ensures ∙ left_twice stays c.args.self.now

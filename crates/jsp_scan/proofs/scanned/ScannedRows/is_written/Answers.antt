use Rattle.std.proofs.Common.{◌∙◌, ap}
use Rattle.std.specs.Prelude.{◌==◌, ◌&&◌}
use Rattle.std.specs.List.{list_any}
use Rattle.jsp_model.specs.declared.state.Row.{Row as OfRow}
use Rattle.jsp_scan.proofs.scanned.ScannedRows.is_written.Goals as goal

pub returns : goal.returns
returns g c = λ p h. c.is_written.ensures p h ∙ ap (list_any (λ (r : OfRow). r.number == c.args.number && p r.writer)) (c.deref.ensures.value ∙ c.self.view_is)

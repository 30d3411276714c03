use Rattle.std.proofs.Common.{◌∙◌, ap, sym}
use Rattle.std.specs.Prelude.{◌&&◌, ◌==◌}
use Rattle.std.specs.List.{list_any}
use Rattle.jsp_model.specs.declared.state.Row.{Row}
use Rattle.jsp_store.specs.Storage.{rows_in}
use Rattle.jsp_store.proofs.rows.Rows.is_written.Goals as goal

pub returns-in-Scanned : goal.returns-in-Scanned
returns-in-Scanned g c = λ p says. c.is_written.ensures p says ∙ ap (list_any (λ (r : Row). r.number == c.args.number && p r.writer)) (ap rows_in (sym c.in-Scanned.is) ∙ c.self.view_is)

pub returns-in-Hinted : goal.returns-in-Hinted
returns-in-Hinted g c = λ p says. c.is_written-in-Hinted.ensures p says ∙ ap (list_any (λ (r : Row). r.number == c.args.number && p r.writer)) (ap rows_in (sym c.in-Hinted.is) ∙ c.self.view_is)

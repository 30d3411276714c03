use Rattle.std.proofs.Common.{refl, ◌∙◌}
use Rattle.jsp_index.proofs.hinted.HintedRows.clear_first.Goals as goal

pub rows-init : goal.rows-init
rows-init c = refl

pub rows-preserved : goal.rows-preserved
rows-preserved c = c.remove_first.ensures ∙ c.rows.invariant

use Rattle.std.proofs.Common.{refl, ◌∙◌}
use Rattle.jsp_index.proofs.deciding.apply_to_some.Goals as goal

pub rows-init : goal.rows-init
rows-init c = record { held = c.requires; same = refl }

pub rows-preserved : goal.rows-preserved
rows-preserved c = record { held = c.apply_to_first.ensures.held; same = c.apply_to_first.ensures.same ∙ c.rows.invariant.same }

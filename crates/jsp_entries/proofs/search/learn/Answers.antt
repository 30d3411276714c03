use Rattle.std.proofs.Common.{◌∙◌}
use Rattle.jsp_entries.proofs.search.learn.Goals as goal

pub templates-preserved : goal.templates-preserved
templates-preserved c = c.learn_of.ensures ∙ c.templates.invariant

use Rattle.std.proofs.Common.{◌∙◌, sym}
use Rattle.jsp_state.proofs.Fitting.{all_fit}
use Rattle.jsp_entries.proofs.search.refuse_search.Goals as goal

pub refuse_to_wait-requires-clause-templates : goal.refuse_to_wait-requires-clause-templates
refuse_to_wait-requires-clause-templates c = all_fit c.args.state.now c.args.asked.now.templates.now (sym c.templates_refusal.ensures ∙ c.in_default-templates_refusal.is)

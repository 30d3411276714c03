use Rattle.std.proofs.Common.{◌≡◌, map, take}
use Rattle.jsp_types.specs.Matching.{template_of}
use Rattle.jsp_state.proofs.entries.templates_of.Given as goal

abbrev pub invariant-templates : goal.invariant-templates
invariant-templates l = l.made ≡ map (template_of l.classes) (take l.template-index l.templates)

use Rattle.std.proofs.Common.{◌≡◌, slice_index, drop}
use Rattle.jsp_keys.specs.Templates.{keys_of_all}
use Rattle.jsp_keys.proofs.templates.key_of_all.Given as goal

abbrev pub invariant-templates : goal.invariant-templates
invariant-templates l = slice_index (keys_of_all l.seed l.space (drop l.at l.templates)) l.left ≡ slice_index (keys_of_all l.seed l.space l.templates) l.place

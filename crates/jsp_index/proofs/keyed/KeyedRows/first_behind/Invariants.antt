use Rattle.std.proofs.Common.{take, option_copied}
use Rattle.jsp_index.specs.Finding.{is_next, is_asked, IsLeast}
use Rattle.jsp_index.proofs.keyed.KeyedRows.first_behind.Given as goal

abbrev pub invariant-templates : goal.invariant-templates
invariant-templates g l = IsLeast (is_next (g.P.Test.is_passed l.test) l.behind.number) (is_asked l.classes l.space (take l.template-index l.templates)) l.self (option_copied l.first)

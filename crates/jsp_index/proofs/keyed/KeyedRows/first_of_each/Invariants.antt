use Rattle.std.proofs.Common.{take, option_copied}
use Rattle.jsp_index.specs.Finding.{is_next, is_like_of, IsLeast}
use Rattle.jsp_index.proofs.keyed.KeyedRows.first_of_each.Given as goal

abbrev pub invariant-classes : goal.invariant-classes
invariant-classes g l = IsLeast (is_next (g.P.Test.is_passed l.test) l.behind.number) (is_like_of l.classes l.space l.like (take l.class-index l.names)) l.self (option_copied l.first)

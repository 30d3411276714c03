use Rattle.std.proofs.Common.{◌≡◌, map, take, drop, option_copied}
use Rattle.std.specs.Prelude.{filter}
use Rattle.jsp_model.specs.declared.state.Row.{Row}
use Rattle.jsp_index.specs.Finding.{is_next}
use Rattle.jsp_index.specs.Own.{is_own, IsKept}
use Rattle.jsp_index.proofs.walking.entries_found.Given as goal

abbrev pub invariant-rows : goal.invariant-rows
invariant-rows g l = record {
  rest : drop l._count (filter (is_next (g.P.Test.is_passed l.test) l.from) l.rows) ≡ filter (is_next (g.P.Test.is_passed l.test) l.after) l.rows;
  found : l.entries ≡ map (λ (r : Row). r.entry) (take l._count (filter (is_next (g.P.Test.is_passed l.test) l.from) l.rows));
  kept : IsKept (g.P.Test.is_passed l.test) (is_own (option_copied l.scope.own)) l.after l.rows (option_copied l.own);
}

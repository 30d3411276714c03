use Rattle.std.proofs.Common.{◌≡◌, length, map, take, drop, None, option_copied}
use Rattle.std.specs.Prelude.{filter}
use Rattle.std.specs.List.{last_or}
use Rattle.jsp_model.specs.declared.state.Row.{Row}
use Rattle.jsp_index.specs.Finding.{is_next}
use Rattle.jsp_index.specs.Own.{is_own, IsKept}
use Rattle.jsp_index.proofs.walking.walk.Given as goal

abbrev pub invariant-rows : goal.invariant-rows
invariant-rows g l = record {
  rest : drop l.count (filter (is_next (g.P.Test.is_passed l.test) l.from) l.rows) ≡ filter (is_next (g.P.Test.is_passed l.test) l.after) l.rows;
  counted : l.count ≡ length (take l.count (filter (is_next (g.P.Test.is_passed l.test) l.from) l.rows));
  found : l.last ≡ last_or None (map (λ (r : Row). r.number) (take l.count (filter (is_next (g.P.Test.is_passed l.test) l.from) l.rows)));
  kept : IsKept (g.P.Test.is_passed l.test) (is_own (option_copied l.scope.own)) l.after l.rows (option_copied l.own);
}

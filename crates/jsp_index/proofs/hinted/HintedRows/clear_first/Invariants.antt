use Rattle.std.proofs.Common.{◌≡◌, ◌==◌, not}
use Rattle.std.specs.Prelude.{filter}
use Rattle.jsp_model.specs.declared.state.Row.{Row}
use Rattle.jsp_index.proofs.hinted.HintedRows.clear_first.Given as goal

abbrev pub invariant-rows : goal.invariant-rows
invariant-rows l = filter (λ (r : Row). not (r.space == l.space)) l.self ≡ filter (λ (r : Row). not (r.space == l.space)) l.fn.self

use Rattle.std.proofs.Common.{◌≡◌, not, take}
use Rattle.std.specs.Prelude.{filter}
use Rattle.jsp_model.specs.declared.state.Row.{Row}
use Rattle.jsp_model.specs.Lookup.{contains}
use Rattle.jsp_index.proofs.revising.remove_all.Given as goal

abbrev pub invariant-numbers : goal.invariant-numbers
invariant-numbers l = l.rows ≡ filter (λ (r : Row). not (contains (take l.number-index l.numbers) r.number)) l.fn.rows

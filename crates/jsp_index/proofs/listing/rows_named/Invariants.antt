use Rattle.std.proofs.Common.{◌≡◌, ◌++◌, ◌&&◌, length}
use Rattle.std.specs.Prelude.{filter}
use Rattle.jsp_model.specs.declared.state.Row.{Row}
use Rattle.jsp_table.specs.Numbers.{contains}
use Rattle.jsp_index.specs.Finding.{is_next}
use Rattle.jsp_index.proofs.listing.rows_named.Given as goal

abbrev pub invariant-rows : goal.invariant-rows
invariant-rows g l = l.copies.items ++ (filter (is_next (λ (r : Row). contains l.numbers r.number && g.P.Test.is_passed l.test r) l.after) l.rows) ≡ filter (is_next (λ (r : Row). contains l.numbers r.number && g.P.Test.is_passed l.test r) 0) l.rows

abbrev pub decreases-rows : goal.decreases-rows
decreases-rows g l = length (filter (is_next (λ (r : Row). contains l.numbers r.number && g.P.Test.is_passed l.test r) l.after) l.rows)

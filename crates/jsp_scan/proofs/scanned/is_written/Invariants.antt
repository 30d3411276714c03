use Rattle.std.proofs.Common.{◌≡◌, ℕ, Bool, Option, false, take}
use Rattle.std.specs.Prelude.{◌==◌, ◌&&◌}
use Rattle.std.specs.List.{list_any}
use Rattle.std.specs.Fn.{FnReturns}
use Rattle.jsp_model.specs.declared.state.Row.{Row as OfRow}
use Rattle.jsp_scan.proofs.scanned.is_written.Given as goal

abbrev pub invariant-rows : goal.invariant-rows
invariant-rows g l =
    (p : Option ℕ → Bool) → ((x : Option ℕ) (b : Bool) → FnReturns g.F.Fn l.test (x, tt) b → b ≡ p x) → list_any (λ (r : OfRow). r.number == l.number && p r.writer) (take l.row-index l.rows) ≡ false

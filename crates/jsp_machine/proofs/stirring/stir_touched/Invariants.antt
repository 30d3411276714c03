use Rattle.std.proofs.Common.{◌≡◌, ◌||◌, ℕ, not, take, true}
use Rattle.std.specs.List.{list_all}
use Rattle.jsp_model.specs.declared.state.Row.{Row}
use Rattle.jsp_core.specs.Offering.{is_offered}
use Rattle.jsp_machine.specs.Unmarking.{is_touched_by}
use Rattle.jsp_machine.specs.Stirring.{are_named_for}
use Rattle.jsp_machine.proofs.stirring.stir_touched.Given as goal

abbrev pub invariant-leases : goal.invariant-leases
invariant-leases l = record {
  stirred : list_all (λ (r : Row). not (is_touched_by (take l.lease-index l.leases) r) || are_named_for l.state l.stirred r) l.state.rows ≡ true;
  keeps : (n : ℕ) → is_offered l.fn.stirred n ≡ true → is_offered l.stirred n ≡ true;
}

use Rattle.std.proofs.Common.{◌≡◌, ◌||◌, ℕ, not, take, true}
use Rattle.std.specs.List.{list_all}
use Rattle.jsp_model.specs.declared.state.Row.{Row}
use Rattle.jsp_core.specs.Offering.{is_offered}
use Rattle.jsp_machine.specs.Unmarking.{is_marked_by}
use Rattle.jsp_machine.proofs.offering.offer_marked.Given as goal

abbrev pub invariant-leases : goal.invariant-leases
invariant-leases l = record {
  held : list_all (λ (r : Row). not (is_marked_by (take l.lease-index l.leases) r) || is_offered l.offers r.number) l.state.rows ≡ true;
  keeps : (n : ℕ) → is_offered l.fn.offers n ≡ true → is_offered l.offers n ≡ true;
}

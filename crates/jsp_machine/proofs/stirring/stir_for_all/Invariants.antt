use Rattle.std.proofs.Common.{◌≡◌, ◌||◌, ℕ, not, take, true}
use Rattle.std.specs.List.{list_all}
use Rattle.jsp_model.specs.declared.state.Row.{Row}
use Rattle.jsp_model.specs.Lookup.{contains}
use Rattle.jsp_core.specs.Offering.{is_offered}
use Rattle.jsp_machine.specs.Stirring.{are_named_for}
use Rattle.jsp_machine.proofs.stirring.stir_for_all.Given as goal

abbrev pub invariant-numbers : goal.invariant-numbers
invariant-numbers l = record {
  stirred : list_all (λ (r : Row). not (contains (take l.number-index l.numbers) r.number) || are_named_for l.state l.stirred r) l.state.rows ≡ true;
  keeps : (n : ℕ) → is_offered l.fn.stirred n ≡ true → is_offered l.stirred n ≡ true;
}

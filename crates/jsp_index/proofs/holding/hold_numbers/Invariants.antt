use Rattle.std.proofs.Common.{◌≡◌, true, take}
use Rattle.std.specs.List.{AllByRecursion}
use Rattle.jsp_model.specs.declared.state.Row.{Row}
use Rattle.jsp_model.specs.Lookup.{contains as has}
use Rattle.jsp_index.specs.Holding.{lists, Keeps}
use Rattle.jsp_index.proofs.holding.hold_numbers.Given as goal

abbrev pub invariant-numbers : goal.invariant-numbers
invariant-numbers l = record {
  held : AllByRecursion (λ (r : Row). has (take l.number-index l.numbers) r.number ≡ true → lists l.holders l.x r.space r.number ≡ true) l.rows;
  keeps : Keeps l.fn.holders l.holders;
}

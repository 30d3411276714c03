use Rattle.std.proofs.Common.{◌≡◌, true, false, take}
use Rattle.std.specs.List.{AllByRecursion}
use Rattle.jsp_model.specs.declared.state.Row.{Row}
use Rattle.jsp_model.specs.Lookup.{contains as has}
use Rattle.jsp_decided.specs.Recording.{covers}
use Rattle.jsp_decided.proofs.pending.are_numbers_uncovered.Given as goal

abbrev pub invariant-numbers : goal.invariant-numbers
invariant-numbers l = AllByRecursion (λ (r : Row). has (take l.number-index l.numbers) r.number ≡ true → covers l.recorded r.space ≡ false) l.stored

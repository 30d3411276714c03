use Rattle.std.proofs.Common.{◌≡◌, ℕ, true, take}
use Rattle.jsp_model.specs.Lookup.{contains as has}
use Rattle.jsp_table.specs.Numbers.{contains}
use Rattle.jsp_index.proofs.listing.named_by.Given as goal

abbrev pub invariant-numbers : goal.invariant-numbers
invariant-numbers l = (n : ℕ) → has (take l.number-index l.numbers) n ≡ true → contains l.named n ≡ true

use Rattle.std.proofs.Common.{◌≡◌, ℕ, true, take}
use Rattle.jsp_model.specs.Lookup.{contains as has}
use Rattle.jsp_index.specs.Holding.{listed_in, is_in}
use Rattle.jsp_index.proofs.holding.numbers_of.Given as goal

abbrev pub invariant-holdings : goal.invariant-holdings
invariant-holdings l = (space n : ℕ) → is_in (listed_in (take l.holding-index l.holdings) space) n ≡ true → has l.numbers.items n ≡ true

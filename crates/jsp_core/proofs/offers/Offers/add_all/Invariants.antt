use Rattle.std.proofs.Common.{◌≡◌, ℕ, true, take}
use Rattle.jsp_model.specs.Lookup.{contains as has}
use Rattle.jsp_core.specs.Offering.{is_offered}
use Rattle.jsp_core.proofs.offers.Offers.add_all.Given as goal

abbrev pub invariant-numbers : goal.invariant-numbers
invariant-numbers l = record {
  added : (n : ℕ) → has (take l.number-index l.numbers) n ≡ true → is_offered l.self n ≡ true;
  keeps : (n : ℕ) → is_offered l.fn.self n ≡ true → is_offered l.self n ≡ true;
}

use Rattle.std.proofs.Common.{◌≡◌, ◌≤◌, ◌<◌, ℕ, true}
use Rattle.jsp_core.specs.Offering.{is_offered}
use Rattle.jsp_core.proofs.offers.Offers.add_between.Given as goal

abbrev pub invariant-numbers : goal.invariant-numbers
invariant-numbers l = record {
  added : (n : ℕ) → l.from ≤ n → n < l.number → is_offered l.self n ≡ true;
  keeps : (n : ℕ) → is_offered l.fn.self n ≡ true → is_offered l.self n ≡ true;
}

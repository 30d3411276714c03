use Rattle.std.proofs.Common.{◌≡◌, ◌<◌, ℕ, true}
use Rattle.jsp_model.specs.Lookup.{contains}
use Rattle.jsp_model.specs.Quiet.{is_quiet}
use Rattle.jsp_house.proofs.quieting.quieting_of.Given as goal

abbrev pub invariant-places : goal.invariant-places
invariant-places l = (p : ℕ) → p < l.space → contains l.spaces p ≡ true → is_quiet l.image p ≡ true

-- Why a lease isn't granted.
use Rattle.std.specs.Prelude.{ℤ, Bool, [], ◌∷◌, is_none}
use Rattle.jsp_lease.specs.Granted.{granted}
use Rattle.jsp_reply.specs.declared.refusal.Refusal.TheVariants.{BadLease, TooMany, UsedUp}
use Rattle.jsp_model.specs.declared.state.State.{State}
use Rattle.jsp_model.specs.Refusals.{Tests, is_used_up}

abbrev pub own_tests : State → ℤ → Bool → Tests
own_tests st lease is_full = (is_none (granted lease), BadLease) ∷ (is_full, TooMany) ∷ (is_used_up st 1, UsedUp) ∷ []

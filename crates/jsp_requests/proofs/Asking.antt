-- Requests, operation by operation: what is known of one that isn't refused.
use Rattle.std.proofs.Common.{◌≡◌, ℕ, Bool, true, false, cond, Option, Some, None, refl}
use Rattle.jsp_types.specs.Tests.{first_that}
use Rattle.jsp_wire.specs.declared.ask.Ask.{Ask}
use Rattle.jsp_wire.specs.declared.ask.Ask.TheVariants as ask
use Rattle.jsp_model.specs.declared.state.State.{State}
use Rattle.jsp_model.specs.Refusals.{refusal, own_tests}

rest_of : {F : Type 0} (b : Bool) (f : F) (rest : Option F) → cond b (Some f) rest ≡ None → rest ≡ None
rest_of true f rest h = cc (h)
rest_of false f rest h = h

-- none of its own tests applies
pub own_good : (st : State) (s id : ℕ) (a : Ask) → refusal st s id a ≡ None → first_that (own_tests st s id a) ≡ None
unfolding refusal
own_good st s id (ask.Hello v) h = refl
own_good st s id _ h = rest_of _ _ _ h

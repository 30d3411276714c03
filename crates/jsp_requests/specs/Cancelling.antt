-- A lease of a batch that ends something.
use Rattle.std.specs.Prelude.{ℕ, ℤ, Bool, ◌&&◌, ◌||◌, ◌==◌, Option}
use Rattle.jsp_model.specs.declared.state.State.{State}
use Rattle.jsp_model.specs.Lookup.{named, is_caller, is_living}
use Rattle.jsp_model.proofs.Cancelling.{is_cancellable}

-- cancelling it ends what has the number, or the transaction that this is under
abbrev pub ends_it : State → ℤ → ℕ → Option ℕ → Bool
ends_it st l n under = is_cancellable st (named l) && (n == named l || is_caller under (named l) && is_living st (named l))

-- What calls promise that are made beside what earlier calls left.
use Rattle.std.specs.Prelude.{◌≡◌, ℕ, not, List, [], ◌++◌, filter, Result, Ok, Err, IsTrue}
use Rattle.jsp_model.specs.declared.state.State.{State}
use Rattle.jsp_model.specs.declared.step.Step.{Step}
use Rattle.jsp_model.specs.declared.house.Input.{Input}
use Rattle.jsp_model.specs.declared.house.Stopped.{Stopped}
use Rattle.jsp_model.specs.declared.house.Why.{Why}
use Rattle.jsp_model.specs.Lookup.{contains}
use Rattle.jsp_model.specs.Quiet.{are_quiet}
use Rattle.jsp_model.specs.House.{Acts, Goes}

-- what is owed once more is owed besides, each space once
abbrev pub owing : List ℕ → List ℕ → List ℕ
owing owed more = owed ++ filter (λ p. not (contains owed p)) more

-- An act of a house as if it owed nothing. What this leaves is owed besides, and what was owed is owed still.
pub record ActsBeside (old new : State) (owed left : List ℕ) (before after : List Step) (x : Input) (result : Result Unit Stopped) : Type 0 where
  pub more : List ℕ
  pub acts : Acts old new [] more before after x result
  pub owes : left ≡ owing owed more

-- what steps touched that nobody asked for is quiet, or owed besides where they were stopped
abbrev pub LeavesBeside : Result Unit Why → State → List ℕ → List ℕ → List ℕ → Type 0
LeavesBeside (Ok _) new owed more left = IsTrue (are_quiet new more) × (left ≡ owed)
LeavesBeside (Err _) new owed more left = left ≡ owing owed more

-- Steps were made that nobody asked for, as if nothing was owed: what is due, and what makes spaces quiet.
pub record GoesBeside (old new : State) (owed left : List ℕ) (before after : List Step) (result : Result Unit Why) : Type 0 where
  pub more : List ℕ
  pub goes : Goes old new [] more before after
  pub leaves : LeavesBeside result new owed more left

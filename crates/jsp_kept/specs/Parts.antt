-- What the calls in parts promise.
use Rattle.std.specs.Prelude.{◌≡◌, ◌≢◌, ◌≤◌, ℕ, ◌+◌, ◌⊎◌, List, [], length, nat_le, Result, if◌then◌else◌}
use Rattle.jsp_model.specs.declared.step.Step.{Step}
use Rattle.jsp_model.specs.declared.house.Stopped.{Stopped}
use Rattle.jsp_model.specs.declared.house.Why.{Why}
use Rattle.jsp_model.specs.declared.house.Why.TheVariants as why
use Rattle.jsp_model.specs.House.{Covers, Leaves, own_of, touched}
use Rattle.jsp_beside.specs.Beside.{LeavesBeside, owing}
use Rattle.jsp_kept.specs.History.{History, limit_of}
use Rattle.jsp_kept.specs.Eras.{Grows}

-- Steps were made, those that were asked for are `own`, and what was touched is quiet, or owed where the call was stopped,
-- besides what was owed before.
pub record PerformsBeside (h k : History) (own : List Step) (result : Result Unit Stopped) : Type 0 where
  pub steps : List Step
  pub grows : Grows h k steps
  pub own_steps : own_of steps ≡ own
  pub more : List ℕ
  pub leaves : Leaves result k.state (touched h.state steps) more
  pub debt : k.debt ≡ owing h.debt more

-- Steps were made that nobody asked for, and what was touched is quiet, or owed where the call was stopped.
pub record PreparesBeside (h k : History) (result : Result Unit Why) : Type 0 where
  pub steps : List Step
  pub grows : Grows h k steps
  pub own_steps : own_of steps ≡ []
  pub more : List ℕ
  pub covers : Covers more (touched h.state steps)
  pub leaves : LeavesBeside result k.state h.debt more k.debt

-- a part was stopped since it was long enough, or for want of memory
abbrev pub EndsPart : Why → Type 0
EndsPart w = (w ≡ why.EraFull) ⊎ (w ≡ why.NoMemory)

-- how many steps the era has as a part begins: one that is full gives way to a new one
abbrev pub begun : History → ℕ
begun h = if nat_le (limit_of h) (length h.steps) then 0 else length h.steps

-- and the length at which it is full
abbrev pub limit_begun : History → ℕ
limit_begun h = if nat_le (limit_of h) (length h.steps) then h.era else limit_of h

-- with so many steps a part has made as many as it may, or its era is full
abbrev pub IsLong : ℕ → ℕ → ℕ → ℕ → Type 0
IsLong begun limit most n = (begun + most ≤ n) ⊎ (limit ≤ n)

-- How a call takes a history on. Its steps go on from the present state, in the same era; or eras were sealed between them.
use Rattle.std.specs.Prelude.{◌≡◌, ℕ, ◌+◌, ◌<◌, ◌≤◌, ◌⊎◌, Bool, true, false, List, [], ◌++◌, length, get_or, Result}
use Rattle.jsp_model.specs.declared.state.State.{State}
use Rattle.jsp_model.specs.declared.step.Step.{Step}
use Rattle.jsp_model.specs.declared.house.Stopped.{Stopped}
use Rattle.jsp_model.specs.declared.house.Why.{Why}
use Rattle.jsp_model.specs.declared.house.Why.TheVariants as why
use Rattle.jsp_model.specs.Runs.{IsRun, state_after}
use Rattle.jsp_model.specs.House.{Covers, Leaves, own_of, touched}
use Rattle.jsp_quiet.specs.Quieting.{left_to_say, living}
use Rattle.jsp_kept.specs.Counts.{asks_of, outs_of}
use Rattle.jsp_kept.specs.History.{History, limit_of}

-- ---- the eras

-- the era goes on by these steps
pub record EraContinues (h k : History) (made : List Step) : Type 0 where
  pub steps : k.steps ≡ h.steps ++ made
  pub is_sealed : k.is_sealed ≡ h.is_sealed

-- The present era began after some of these steps, and has the others. By then there were as many steps as an era holds.
pub record WasSealed (h k : History) (made : List Step) : Type 0 where
  pub earlier : List Step
  pub full : h.era ≤ length h.steps + length earlier
  pub steps : made ≡ earlier ++ k.steps
  pub is_sealed : k.is_sealed ≡ true

-- these steps were made, a run from the old state to the new one, and the counts went up by what they count
pub record Grows (h k : History) (made : List Step) : Type 0 where
  pub run : IsRun h.state made
  pub state : k.state ≡ state_after h.state made
  pub eras : EraContinues h k made ⊎ WasSealed h k made
  pub asked : (i : ℕ) → get_or k.asked i 0 ≡ get_or h.asked i 0 + asks_of (i + 1) made
  pub taken : (i : ℕ) → get_or k.taken i 0 ≡ get_or h.taken i 0 + outs_of (i + 1) made
  pub spaces : k.spaces ≡ h.spaces
  pub era : k.era ≡ h.era

-- ---- calls

-- Steps were made, those that were asked for are `own`, and what was touched and owed is quiet, or owed where the call was
-- stopped.
pub record GrowsAsAsked (h k : History) (own : List Step) (result : Result Unit Stopped) : Type 0 where
  pub steps : List Step
  pub grows : Grows h k steps
  pub own_steps : own_of steps ≡ own
  pub leaves : Leaves result k.state (touched h.state steps ++ h.debt) k.debt

-- Steps were made that nobody asked for, and what was touched and owed is owed.
pub record Prepares (h k : History) : Type 0 where
  pub steps : List Step
  pub grows : Grows h k steps
  pub own_steps : own_of steps ≡ []
  pub covers : Covers k.debt (touched h.state steps ++ h.debt)

-- ---- when an era ends

-- the era isn't full
abbrev pub HasPlace : History → Type 0
HasPlace h = length h.steps < limit_of h

-- at most so many steps that nobody asks for can follow
abbrev pub left_to_make : State → ℕ
left_to_make st = left_to_say st + living st

-- where a full era ends a call in it, fewer such steps are left
abbrev pub IsNearer : History → History → Why → Type 0
IsNearer h k w = w ≡ why.EraFull → left_to_make k.state < left_to_make h.state

-- the call was stopped before its own step for want of memory alone
abbrev pub NeedsMemory : Stopped → Type 0
NeedsMemory e = e.done ≡ false → e.why ≡ why.NoMemory

-- memory was wanting, before or behind the call's own step
abbrev pub no_memory : Bool → Stopped
no_memory done = record { why = why.NoMemory; done = done }

-- Who has a line: the sessions from 1 up to the last one.
use Rattle.std.specs.Prelude.{◌≡◌, ℕ, ◌≤◌, ◌⊎◌, List, []}
use Rattle.std.specs.List.{AllByRecursion}
use Rattle.jsp_model.specs.declared.step.Step.{Step}
use Rattle.jsp_model.specs.Answers.{Saying}
use Rattle.jsp_drive.specs.Streams.{requests_of}

abbrev pub IsWithin : ℕ → ℕ → Type 0
IsWithin last s = (1 ≤ s) × (s ≤ last)

-- only these sessions ask in the steps
abbrev pub AskWithin : ℕ → List Step → Type 0
AskWithin last steps = (s : ℕ) → (requests_of s steps ≡ []) ⊎ IsWithin last s

-- all of this was said to them
abbrev pub AreTold : ℕ → List Saying → Type 0
AreTold last said = AllByRecursion (λ (a : Saying). IsWithin last a.0) said

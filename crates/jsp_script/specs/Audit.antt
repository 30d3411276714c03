-- What a run says, against what was sent.
use Rattle.std.specs.Prelude.{ℕ, ◌≡◌, ◌==◌, List, [], ◌∷◌, ⊤, Option, None, Some, map, filter, flat_map}
use Rattle.std.specs.HashMap.{HashMap, get}
use Rattle.std.specs.Prelude.{nat_eq}
use Rattle.jsp_model.specs.declared.step.Step.{Step}
use Rattle.jsp_model.specs.Lookup.{empty}
use Rattle.jsp_model.specs.Answers.{Saying}
use Rattle.jsp_model.specs.Runs.{IsRun, said_in}
use Rattle.jsp_drive.specs.declared.acts.Sent.{Sent}
use Rattle.jsp_drive.specs.Heard.{framed}
use Rattle.jsp_drive.specs.Tie.{bytes_to}
use Rattle.jsp_script.specs.declared.fault.ScriptFault.{ScriptFault}
use Rattle.jsp_script.specs.declared.fault.ScriptFault.TheVariants as fault

-- ---- bytes by session

-- what is kept of a session's bytes: nothing where there are none
abbrev pub kept : List ℕ → Option (List ℕ)
kept [] = None
kept (b ∷ bytes) = Some (b ∷ bytes)

module _ {S : Type 0} where
  -- at each session these are the bytes
  abbrev pub Has : HashMap ℕ (List ℕ) S → (ℕ → List ℕ) → Type 0
  Has streams bytes = (s : ℕ) → get nat_eq streams s ≡ kept (bytes s)

-- the frames of what is said to a session
abbrev pub frames_to : ℕ → List Saying → List ℕ
frames_to s sayings = flat_map framed (map (λ (a : Saying). a.1) (filter (λ (a : Saying). a.0 == s) sayings))

-- ---- the audit

-- the steps are a run, and the bytes sent to each session are the frames of what they say to it
pub record IsHistory (spaces : List (List ℕ)) (steps : List Step) (sent : List Sent) : Type 0 where
  pub run : IsRun (empty spaces) steps
  pub bytes : (s : ℕ) → bytes_to s sent ≡ frames_to s (said_in (empty spaces) steps)

-- why steps aren't replayed
abbrev pub ReplayFails : List (List ℕ) → List Step → ScriptFault → Type 0
ReplayFails spaces steps fault.DoesNotReplay = IsRun (empty spaces) steps → ⊥
ReplayFails spaces steps fault.NoMemory = ⊤
ReplayFails spaces steps _ = ⊥

-- why an audit fails
abbrev pub AuditFails : List (List ℕ) → List Step → List Sent → ScriptFault → Type 0
AuditFails spaces steps sent fault.DoesNotReplay = IsHistory spaces steps sent → ⊥
AuditFails spaces steps sent fault.NoMemory = ⊤
AuditFails spaces steps sent _ = ⊥

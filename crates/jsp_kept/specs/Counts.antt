-- What steps count: what a session asks in them, what it is handed out, and how many sessions are shut.
use Rattle.std.specs.Prelude.{ℕ, Bool, true, false, ◌==◌, if◌then◌else◌, List, sum_by, count_by}
use Rattle.jsp_model.specs.declared.step.Step.{Step}
use Rattle.jsp_model.specs.declared.step.Step.TheVariants as step

-- the session's request or fault
abbrev pub is_asked_by : ℕ → Step → Bool
is_asked_by s (step.Ask t asked rows) = t == s
is_asked_by s (step.Fault t id refusal) = t == s
is_asked_by s _ = false

abbrev pub asks_of : ℕ → List Step → ℕ
asks_of s steps = count_by (is_asked_by s) steps

-- how many answers a step hands out to the session
abbrev pub handed_to : ℕ → Step → ℕ
handed_to s (step.HandOut t n) = if t == s then n else 0
handed_to s _ = 0

abbrev pub outs_of : ℕ → List Step → ℕ
outs_of s steps = sum_by (handed_to s) steps

abbrev pub is_shut : Step → Bool
is_shut (step.Shut s) = true
is_shut _ = false

abbrev pub shuts_of : List Step → ℕ
shuts_of steps = count_by is_shut steps

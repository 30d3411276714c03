-- Runs: steps, each legal where it stands.
use Rattle.std.specs.Prelude.{ℕ, ◌+◌, Bool, true, if◌then◌else◌, ◌&&◌, ◌==◌, List, [], ◌∷◌, ◌++◌, map, filter, Option, Some, None, option_map, IsTrue}
use Rattle.jsp_reply.specs.declared.reply.Reply.{Reply}
use Rattle.jsp_model.specs.declared.state.State.{State}
use Rattle.jsp_model.specs.declared.step.Step.{Step}
use Rattle.jsp_model.specs.Answers.{Saying, said}
use Rattle.jsp_model.specs.Steps.{is_legal, next}

abbrev pub state_after : State → List Step → State
state_after st [] = st
state_after st (step ∷ steps) = state_after (next st step) steps

-- all that is said, in order
abbrev pub said_in : State → List Step → List Saying
said_in st [] = []
said_in st (step ∷ steps) = said st step ++ said_in (next st step) steps

-- what is said to one session
abbrev pub said_to : ℕ → State → List Step → List Reply
said_to s st steps = map (λ (a : Saying). a.1) (filter (λ (a : Saying). a.0 == s) (said_in st steps))

abbrev pub is_run : State → List Step → Bool
is_run st [] = true
is_run st (step ∷ steps) = is_legal st step && is_run (next st step) steps

abbrev pub IsRun : State → List Step → Type 0
IsRun st steps = IsTrue (is_run st steps)

-- the place of the first step that isn't legal where it stands
abbrev pub first_illegal : State → List Step → Option ℕ
first_illegal st [] = None
first_illegal st (step ∷ steps) = if is_legal st step then option_map (λ n. n + 1) (first_illegal (next st step) steps) else Some 0

-- a moment of a run: a state, and the step that is made in it
pub record Moment : Type 0 where
  pub state : State
  pub step : Step

abbrev pub moments : State → List Step → List Moment
moments st [] = []
moments st (step ∷ steps) = record { state = st; step = step } ∷ moments (next st step) steps

-- the states of a run, from the first to the last
abbrev pub states : State → List Step → List State
states st [] = st ∷ []
states st (step ∷ steps) = st ∷ states (next st step) steps

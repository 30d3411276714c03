-- What a session asks over a whole run, by its whole stream.
use Rattle.std.specs.Prelude.{ℕ, ◌+◌, ◌==◌, ◌&&◌, Bool, false, List, [], ◌∷◌, ◌++◌, filter, if◌then◌else◌}
use Rattle.jsp_wire.specs.declared.ask.Version.{Version}
use Rattle.jsp_wire.specs.declared.ask.Version.TheVariants as version
use Rattle.jsp_model.specs.declared.state.State.{State}
use Rattle.jsp_model.specs.declared.step.Step.{Step}
use Rattle.jsp_model.specs.declared.step.Step.TheVariants as step
use Rattle.jsp_model.specs.Lookup.{empty, is_open}
use Rattle.jsp_model.specs.Runs.{state_after}
use Rattle.jsp_drive.specs.declared.acts.Act.{Act}
use Rattle.jsp_drive.specs.declared.acts.Act.TheVariants as act
use Rattle.jsp_drive.specs.declared.acts.Sent.{Sent}
use Rattle.jsp_drive.specs.Versions.{SplitsInto}
use Rattle.jsp_drive.specs.Lines.{Pending, nothing}
use Rattle.jsp_drive.specs.Tie.{asked_in, AsksBy, Tied, IsTied}

-- the bytes that an act brings for the session, where it is open
abbrev pub brings : ℕ → State → Act → List ℕ
brings s st (act.Piece t bytes) = if t == s && is_open st s then bytes.items else []
brings s st _ = []

-- The session's stream: all bytes that came for it while it was open, joined.
abbrev pub stream_of : (s : ℕ) (st : State) (before : ℕ → Pending) (n : ℕ) (acts : List Act) (steps : List Step) (sent : List Sent) → Tied st before n acts steps sent → List ℕ
stream_of s st before n [] steps sent tied = []
stream_of s st before n (a ∷ acts) steps sent tied =
    brings s st a ++ stream_of s (state_after st tied.part) tied.after (n + 1) acts tied.more tied.later tied.rest

-- the session's request or fault
abbrev pub is_request_of : ℕ → Step → Bool
is_request_of s (step.Ask t asked rows) = t == s
is_request_of s (step.Fault t id refusal) = t == s
is_request_of s _ = false

-- what the session asks in the steps, in order
abbrev pub requests_of : ℕ → List Step → List Step
requests_of s steps = filter (is_request_of s) (asked_in steps)

-- The stream is frames and a rest, and these are what is asked, in order, on a line that has version v at the first.
pub record AsksByStream (s : ℕ) (v : Version) (stream : List ℕ) (asked : List Step) (stays : Bool) : Type 0 where
  pub payloads : List (List ℕ)
  pub rest : List ℕ
  pub split : SplitsInto v stream payloads rest
  pub asks : AsksBy s v payloads rest asked stays

-- However the steps are tied to the acts, each session asks by its whole stream, in whatever pieces it came. A line
-- begins in version 1.
abbrev pub AskByStreams : List (List ℕ) → List Act → List Step → List Sent → Type 0
AskByStreams spaces acts steps sent =
    (s : ℕ) (tied : IsTied spaces acts steps sent)
    → AsksByStream s version.One (stream_of s (empty spaces) (λ t. nothing) 0 acts steps sent tied) (requests_of s steps) (is_open (state_after (empty spaces) steps) s)

-- What a line gives for its whole stream: all bytes that it was fed, joined.
use Rattle.std.specs.Prelude.{◌≡◌, ℕ, Bool, true, false, List, [], ◌∷◌, ◌++◌, None, if◌then◌else◌}
use Rattle.jsp_wire.specs.declared.ask.Version.{Version}
use Rattle.jsp_wire.specs.declared.ask.Version.TheVariants as version
use Rattle.jsp_frame.specs.Stream.{IsTooLong}
use Rattle.jsp_frame.specs.Reading.{EndsIn}
use Rattle.jsp_reply.specs.declared.refusal.Refusal.TheVariants.{TooLong}
use Rattle.jsp_model.specs.declared.step.Step.{Step}
use Rattle.jsp_model.specs.declared.step.Step.TheVariants as step
use Rattle.jsp_model.specs.House.{step_of}
use Rattle.jsp_drive.specs.declared.line.Next.{Next}
use Rattle.jsp_drive.specs.declared.line.Next.TheVariants as next
use Rattle.jsp_drive.specs.declared.line.Phase.{Phase}
use Rattle.jsp_drive.specs.declared.line.Phase.TheVariants as phase
use Rattle.jsp_drive.specs.Versions.{longest, version_behind, heard_each, SplitsInto}
use Rattle.jsp_drive.specs.Line.{Unheard, input_of}

-- each payload as it is heard, and the fault of a frame that is too long behind them
abbrev pub heard_all : ℕ → List (List ℕ) → Bool → List Step
heard_all s payloads too_long = heard_each s version.One payloads ++ (if too_long then step.Fault s None TooLong ∷ [] else [])

-- in this phase a line has this version, holds this rest of its stream, and was past a length that is too long or not
abbrev pub StandsAt : Phase → Unheard → Version → List ℕ → Bool → Type 0
StandsAt phase.Open line v rest too_long = (v ≡ line.version) × (rest ≡ line.rest) × (too_long ≡ false)
StandsAt phase.Closed line v rest too_long = IsTooLong (longest v) rest × (too_long ≡ true)
StandsAt phase.NoMemory line v rest too_long = Unit {0}

-- So far the line gave this for this stream, as what the session asks: by each frame but those that are in what it holds.
pub record Gave (s : ℕ) (stream : List ℕ) (asked : List Step) (line : Unheard) : Type 0 where
  pub payloads : List (List ℕ)
  pub rest : List ℕ
  pub too_long : Bool
  pub split : SplitsInto version.One stream payloads rest
  pub asked_is : asked ≡ heard_all s payloads too_long
  pub stands : StandsAt line.phase line (version_behind version.One payloads) rest too_long

-- all that the session asks by the stream: no frame is in the rest, which begins with a length past the limit or not
pub record GaveAll (s : ℕ) (stream : List ℕ) (asked : List Step) (too_long : Bool) : Type 0 where
  pub payloads : List (List ℕ)
  pub rest : List ℕ
  pub split : SplitsInto version.One stream payloads rest
  pub ended : EndsIn too_long (longest (version_behind version.One payloads)) rest
  pub asked_is : asked ≡ heard_all s payloads too_long

-- whatever the stream was, the piece is its end now
abbrev pub FeedsStream : Unheard → List ℕ → Unheard → Type 0
FeedsStream old piece new = (s : ℕ) (stream : List ℕ) (asked : List Step) → Gave s stream asked old → Gave s (stream ++ piece) asked new

-- the answer of `next` is what is asked next; no input is answered only where all was given
abbrev pub GivesNext : ℕ → List ℕ → List Step → Next → Unheard → Type 0
GivesNext s stream asked (next.Input x) new = Gave s stream (asked ++ step_of (input_of s x) ∷ []) new
GivesNext s stream asked next.More new = Gave s stream asked new × GaveAll s stream asked false
GivesNext s stream asked next.Closed new = Gave s stream asked new × GaveAll s stream asked true

abbrev pub FollowsStream : Unheard → Next → Unheard → Type 0
FollowsStream old next new = (s : ℕ) (stream : List ℕ) (asked : List Step) → Gave s stream asked old → GivesNext s stream asked next new

-- What a line holds, and what it gives.
use Rattle.std.specs.Prelude.{◌≡◌, ℕ, ◌⊎◌, Bool, true, List, [], None}
use Rattle.jsp_wire.specs.declared.ask.Version.{Version}
use Rattle.jsp_wire.specs.declared.ask.Version.TheVariants as version
use Rattle.jsp_frame.specs.Stream.{IsUnfinished, IsTooLong, BeginsWith}
use Rattle.jsp_frame.specs.Unframer.{Incoming}
use Rattle.jsp_frame.specs.Unframer as frames
use Rattle.jsp_reply.specs.declared.refusal.Refusal.TheVariants.{TooLong}
use Rattle.jsp_model.specs.declared.house.Input.{Input}
use Rattle.jsp_model.specs.declared.house.Input.TheVariants as input
use Rattle.jsp_model.specs.Steps.{is_fault}
use Rattle.jsp_model.specs.House.{step_of}
use Rattle.jsp_drive.specs.declared.hear.LineInput.{LineInput}
use Rattle.jsp_drive.specs.declared.hear.LineInput.TheVariants.{Ask, Fault}
use Rattle.jsp_drive.specs.declared.line.Next.{Next}
use Rattle.jsp_drive.specs.declared.line.Next.TheVariants as next
use Rattle.jsp_drive.specs.declared.line.Phase.{Phase}
use Rattle.jsp_drive.specs.declared.line.Phase.TheVariants as phase
use Rattle.jsp_drive.specs.Heard.{heard}
use Rattle.jsp_drive.specs.Versions.{longest, version_asked, version_after}

-- ---- what a session asks

-- of the session with this number
abbrev pub input_of : ℕ → LineInput → Input
input_of s (Ask request) = input.Ask s request
input_of s (Fault id refusal) = input.Fault s id refusal

-- it may be acted
abbrev pub is_line_input : LineInput → Bool
is_line_input (Ask request) = true
is_line_input (Fault id refusal) = is_fault refusal

-- it is what any session asks by this payload
abbrev pub IsHeardAs : Version → List ℕ → LineInput → Type 0
IsHeardAs v payload x = (s : ℕ) → step_of (input_of s x) ≡ heard s v payload

-- the version behind it, where it was v
abbrev pub version_by : Version → LineInput → Version
version_by v (Ask request) = version_asked v request.ask
version_by v (Fault id refusal) = v

-- ---- what a line holds

-- the bytes that are in no frame yet, the version of the line behind those that are, and whether inputs can come
pub record Unheard : Type 0 where
  pub rest : List ℕ
  pub version : Version
  pub phase : Phase

-- before the first byte
abbrev pub start : Unheard
start = record { rest = []; version = version.One; phase = phase.Open }

abbrev pub with_rest : Unheard → List ℕ → Unheard
with_rest u rest = record u { rest = rest }

abbrev pub with_phase : Unheard → Phase → Unheard
with_phase u phase = record u { phase = phase }

-- inputs can come
abbrev pub IsOpen : Unheard → Type 0
IsOpen u = u.phase ≡ phase.Open

-- the fault of a frame that is too long was given
abbrev pub IsClosed : Unheard → Type 0
IsClosed u = u.phase ≡ phase.Closed

-- a growth was refused
abbrev pub IsOutOfMemory : Unheard → Type 0
IsOutOfMemory u = u.phase ≡ phase.NoMemory

-- the next frame can be cut, within the limit of this version
pub record IsCutting (v : Version) (u : Incoming) : Type 0 where
  pub phase : frames.IsOpen u
  pub limit : u.limit ≡ longest v

-- while inputs can come, frames can
abbrev pub CutsFor : Phase → Version → Incoming → Type 0
CutsFor phase.Open v u = IsCutting v u
CutsFor _ v u = Unit {0}

-- ---- what a line gives

-- on a line of version v the next frame is cut off, this is what its session asks by it, and w is the version behind it
pub record HearsFrame (v : Version) (bytes : List ℕ) (x : LineInput) (w : Version) (rest : List ℕ) : Type 0 where
  pub payload : List ℕ
  pub begins : BeginsWith (longest v) bytes payload rest
  pub heard_as : IsHeardAs v payload x
  pub behind : w ≡ version_after v payload

-- what `hear_next` answers, and what it leaves
abbrev pub HearsNext : Version → Incoming → Next → Incoming → Type 0
HearsNext v old (next.Input x) new = HearsFrame v old.rest x (version_by v x) new.rest × IsCutting v new
HearsNext v old next.More new = IsUnfinished (longest v) old.rest × (new ≡ old)
HearsNext v old next.Closed new = IsTooLong (longest v) old.rest × (new.rest ≡ old.rest)

-- an input is given for a frame, which is cut off the rest
pub record GivesFrame (old : Unheard) (x : LineInput) (new : Unheard) : Type 0 where
  pub frame : HearsFrame old.version old.rest x new.version new.rest
  pub stays : new.phase ≡ old.phase

-- the rest begins with a length past the limit, and a fault is given for it, the last input
pub record GivesEnd (old : Unheard) (x : LineInput) (new : Unheard) : Type 0 where
  pub too_long : IsTooLong (longest old.version) old.rest
  pub fault : x ≡ Fault None TooLong
  pub closes : new ≡ with_phase old phase.Closed

-- what `next` answers, and what is held then
abbrev pub IsNextOf : Unheard → Next → Unheard → Type 0
IsNextOf old (next.Input x) new = IsOpen old × (GivesFrame old x new ⊎ GivesEnd old x new)
IsNextOf old next.More new = IsOpen old × IsUnfinished (longest old.version) old.rest × (new ≡ old)
IsNextOf old next.Closed new = IsClosed old × (new ≡ old)

-- it may be acted, if it is an input
abbrev pub is_next : Next → Bool
is_next (next.Input x) = is_line_input x
is_next _ = true

-- What an unframer holds, and what it answers.
use Rattle.std.specs.Prelude.{◌≡◌, ℕ, ◌⊎◌, List, []}
use Rattle.jsp_frame.specs.declared.unframer.Cut.{Cut}
use Rattle.jsp_frame.specs.declared.unframer.Cut.TheVariants.{Frame, More, TooLong}
use Rattle.jsp_frame.specs.declared.unframer.Phase.{Phase}
use Rattle.jsp_frame.specs.declared.unframer.Phase.TheVariants as phase
use Rattle.jsp_frame.specs.Stream.{IsUnfinished, IsTooLong, BeginsWith}

-- the limit of the frames to come, the bytes that are in no frame yet, and whether frames can come
pub record Incoming : Type 0 where
  pub limit : ℕ
  pub rest : List ℕ
  pub phase : Phase

-- before the first byte
abbrev pub start : ℕ → Incoming
start limit = record { limit = limit; rest = []; phase = phase.Open }

abbrev pub with_limit : Incoming → ℕ → Incoming
with_limit u limit = record u { limit = limit }

abbrev pub with_rest : Incoming → List ℕ → Incoming
with_rest u rest = record u { rest = rest }

abbrev pub with_phase : Incoming → Phase → Incoming
with_phase u phase = record u { phase = phase }

-- frames can come
abbrev pub IsOpen : Incoming → Type 0
IsOpen u = u.phase ≡ phase.Open

-- a length past the limit came
abbrev pub IsPastLimit : Incoming → Type 0
IsPastLimit u = u.phase ≡ phase.TooLong

-- a growth was refused
abbrev pub IsOutOfMemory : Incoming → Type 0
IsOutOfMemory u = u.phase ≡ phase.NoMemory

-- what `next` answers, and what is held then
abbrev pub CutsNext : Incoming → Cut → Incoming → Type 0
CutsNext old (Frame payload) new =
    IsOpen old × BeginsWith old.limit old.rest payload.items new.rest × (new ≡ with_rest old new.rest)
CutsNext old More new = IsOpen old × IsUnfinished old.limit old.rest × (new ≡ old)
CutsNext old TooLong new =
    (IsPastLimit old ⊎ (IsOpen old × IsTooLong old.limit old.rest)) × (new ≡ with_phase old phase.TooLong)

-- what is cut off the front of some bytes, and the bytes that it leaves
abbrev pub CutsFront : ℕ → List ℕ → Cut → List ℕ → Type 0
CutsFront limit bytes (Frame payload) rest = BeginsWith limit bytes payload.items rest
CutsFront limit bytes More rest = IsUnfinished limit bytes × (rest ≡ bytes)
CutsFront limit bytes TooLong rest = IsTooLong limit bytes × (rest ≡ bytes)

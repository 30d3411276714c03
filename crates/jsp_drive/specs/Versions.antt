-- The frames of a line's stream. Each may change the line's version, and with it the limit of the frames behind it.
use Rattle.std.specs.Prelude.{◌≡◌, ℕ, ◌≤◌, List, [], ◌∷◌, ◌++◌, length, flat_map}
use Rattle.jsp_wire.specs.declared.ask.Version.{Version}
use Rattle.jsp_wire.specs.declared.ask.Version.TheVariants as version
use Rattle.jsp_wire.specs.declared.ask.Ask.{Ask}
use Rattle.jsp_wire.specs.declared.ask.Ask.TheVariants as ask
use Rattle.jsp_wire.specs.Reading.{Reading, request, bad_json, bad_request, reading}
use Rattle.jsp_frame.specs.Stream.{frame_of, HasNoFrame}
use Rattle.jsp_model.specs.declared.step.Step.{Step}
use Rattle.jsp_drive.specs.Heard.{heard}

-- the longest payload of a request, on a line of this version
abbrev pub longest : Version → ℕ
longest version.One = 65536
longest version.Two = 1048576

-- ---- one frame

-- a hello names the version of what follows it; all else leaves the version that there is
abbrev pub version_asked : Version → Ask → Version
version_asked v (ask.Hello next) = next
version_asked v _ = v

abbrev pub version_read : Version → Reading → Version
version_read v (request r) = version_asked v r.ask
version_read v bad_json = v
version_read v (bad_request id) = v

-- the version of a line behind this payload, where it had version v at it
abbrev pub version_after : Version → List ℕ → Version
version_after v payload = version_read v (reading v payload)

-- ---- one frame after another, on a line that has version v at the first

-- the version behind them all
abbrev pub version_behind : Version → List (List ℕ) → Version
version_behind v [] = v
version_behind v (payload ∷ more) = version_behind (version_after v payload) more

-- what the session asks by them, in order
abbrev pub heard_each : ℕ → Version → List (List ℕ) → List Step
heard_each s v [] = []
heard_each s v (payload ∷ more) = heard s v payload ∷ heard_each s (version_after v payload) more

-- each is within the limit of the version that the line has at it
abbrev pub AreWithin : Version → List (List ℕ) → Type 0
AreWithin v [] = Unit {0}
AreWithin v (payload ∷ more) = (length payload ≤ longest v) × AreWithin (version_after v payload) more

-- the bytes are the frames of these payloads, each within its limit, and then the rest
pub record SplitsInto (v : Version) (bytes : List ℕ) (payloads : List (List ℕ)) (rest : List ℕ) : Type 0 where
  pub within : AreWithin v payloads
  pub whole : bytes ≡ flat_map frame_of payloads ++ rest

-- ---- whole streams

-- the stream has these frames and no further one in the rest
pub record HasPayloads (v : Version) (stream : List ℕ) (payloads : List (List ℕ)) (rest : List ℕ) : Type 0 where
  pub split : SplitsInto v stream payloads rest
  pub ended : HasNoFrame (longest (version_behind v payloads)) rest

-- the stream has a reading
abbrev pub HasReading : Version → List ℕ → Type 0
HasReading v stream = (payloads : List (List ℕ)) × (rest : List ℕ) × HasPayloads v stream payloads rest

-- and any two are the same
abbrev pub HasOneReading : Version → List ℕ → Type 0
HasOneReading v stream =
    (payloads others : List (List ℕ)) (rest other : List ℕ)
    → HasPayloads v stream payloads rest → HasPayloads v stream others other → (payloads ≡ others) × (rest ≡ other)

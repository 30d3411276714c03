-- A stream of bytes as frames and a rest.
use Rattle.std.specs.Prelude.{◌≡◌, ℕ, ◌+◌, ◌<◌, ◌≤◌, ◌⊎◌, List, ◌++◌, length, take, flat_map}
use Rattle.std.specs.List.{AllByRecursion}
use Rattle.std.specs.Int.{w32, to_be_bytes, from_be_bytes}

-- the frame of a payload: its length in four bytes, the highest first, and then its bytes
abbrev pub frame_of : List ℕ → List ℕ
frame_of payload = to_be_bytes w32 (length payload) ++ payload

-- the length that the first four bytes name
abbrev pub named_length : List ℕ → ℕ
named_length bytes = from_be_bytes w32 (take 4 bytes)

-- fewer than four bytes, or fewer than a length within the limit asks for
abbrev pub IsUnfinished : ℕ → List ℕ → Type 0
IsUnfinished limit bytes =
    (length bytes < 4) ⊎ ((named_length bytes ≤ limit) × (length bytes < 4 + named_length bytes))

-- the first four bytes name more than the limit
abbrev pub IsTooLong : ℕ → List ℕ → Type 0
IsTooLong limit bytes = (4 ≤ length bytes) × (limit < named_length bytes)

-- no frame stands at the front
abbrev pub HasNoFrame : ℕ → List ℕ → Type 0
HasNoFrame limit bytes = IsUnfinished limit bytes ⊎ IsTooLong limit bytes

-- the bytes are the frame of a payload within the limit, and then the rest
pub record BeginsWith (limit : ℕ) (bytes payload rest : List ℕ) : Type 0 where
  pub within : length payload ≤ limit
  pub whole : bytes ≡ frame_of payload ++ rest

-- each payload is within the limit
abbrev pub AreWithin : ℕ → List (List ℕ) → Type 0
AreWithin limit payloads = AllByRecursion (λ payload. length payload ≤ limit) payloads

-- the bytes are the frames of these payloads, each within the limit, and then the rest
pub record SplitsInto (limit : ℕ) (bytes : List ℕ) (payloads : List (List ℕ)) (rest : List ℕ) : Type 0 where
  pub within : AreWithin limit payloads
  pub whole : bytes ≡ flat_map frame_of payloads ++ rest

-- the stream has these frames and no further one in the rest
pub record HasFrames (limit : ℕ) (stream : List ℕ) (payloads : List (List ℕ)) (rest : List ℕ) : Type 0 where
  pub split : SplitsInto limit stream payloads rest
  pub ended : HasNoFrame limit rest

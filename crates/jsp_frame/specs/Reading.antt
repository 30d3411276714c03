-- The reading of a whole stream.
use Rattle.std.specs.Prelude.{◌≡◌, ℕ, List, map, flat_map, Bool, true, false, Vec}
use Rattle.std.specs.Bool.{OnFalse}
use Rattle.std.specs.declared.alloc.Global.{Global}
use Rattle.jsp_frame.specs.Stream.{IsUnfinished, IsTooLong, SplitsInto, HasFrames}
use Rattle.jsp_frame.specs.Unframer.{Incoming, IsOpen}

abbrev pub payloads_of : List (Vec ℕ Global) → List (List ℕ)
payloads_of payloads = map (λ payload. payload.items) payloads

-- the stream that comes in these pieces
abbrev pub joined_bytes : List (Vec ℕ Global) → List ℕ
joined_bytes pieces = flat_map (λ piece. piece.items) pieces

-- what follows the last frame: a length past the limit, or less than a frame
abbrev pub EndsIn : Bool → ℕ → List ℕ → Type 0
EndsIn true limit rest = IsTooLong limit rest
EndsIn false limit rest = IsUnfinished limit rest

-- the stream is the frames of these payloads and a rest, which begins with a length past the limit or not
pub record IsReading (limit : ℕ) (stream : List ℕ) (payloads : List (List ℕ)) (too_long : Bool) : Type 0 where
  pub rest : List ℕ
  pub split : SplitsInto limit stream payloads rest
  pub ended : EndsIn too_long limit rest

-- the stream has a reading
abbrev pub HasReading : ℕ → List ℕ → Type 0
HasReading limit stream = (payloads : List (List ℕ)) × (rest : List ℕ) × HasFrames limit stream payloads rest

-- and any two are the same
abbrev pub HasOneReading : ℕ → List ℕ → Type 0
HasOneReading limit stream =
    (payloads others : List (List ℕ)) (rest other : List ℕ)
    → HasFrames limit stream payloads rest → HasFrames limit stream others other → (payloads ≡ others) × (rest ≡ other)

-- All frames that are there are taken: a stream that was split into the payloads before and the old
-- rest is split into the payloads after and the new rest.
pub record TakesFrames (old : Incoming) (before : List (List ℕ)) (too_long : Bool) (new : Incoming) (after : List (List ℕ)) : Type 0 where
  pub limit : new.limit ≡ old.limit
  pub taken : (stream : List ℕ) → SplitsInto old.limit stream before old.rest → SplitsInto old.limit stream after new.rest
  pub ended : EndsIn too_long old.limit new.rest
  pub going_on : OnFalse too_long (IsOpen new)

-- A stream that grows piece by piece.
use Rattle.std.proofs.Common.{◌≡◌, ℕ, ◌+◌, ◌<◌, List, [], ◌∷◌, ◌++◌, length, get_or, take, drop, Vec, Bool, true, ap, sym, ◌∙◌, subst, append-nil}
use Rattle.std.proofs.lemmas.Grind.{flat_map-append}
use Rattle.std.proofs.lemmas.List.{take_more, take-append-drop}
use Rattle.std.specs.declared.alloc.Global.{Global}
use Rattle.jsp_frame.specs.Stream.{IsTooLong, SplitsInto}
use Rattle.jsp_frame.specs.Unframer.{Incoming, with_rest}
use Rattle.jsp_frame.specs.Reading.{joined_bytes, EndsIn, IsReading, TakesFrames}
use Rattle.jsp_frame.proofs.Streams.{SplitsInto-append, IsTooLong-append}

abbrev Pieces : Type 0
Pieces = List (Vec ℕ Global)

joined_bytes-append : (xs ys : Pieces) → joined_bytes (xs ++ ys) ≡ joined_bytes xs ++ joined_bytes ys
joined_bytes-append xs ys = flat_map-append (λ (piece : Vec ℕ Global). piece.items) xs ys

-- one piece more
SplitsInto-piece : (pieces : Pieces) (i limit : ℕ) (piece : Vec ℕ Global) (ps : List (List ℕ)) (rest : List ℕ)
    → i < length pieces → piece ≡ get_or pieces i piece
    → SplitsInto limit (joined_bytes (take i pieces)) ps rest
    → SplitsInto limit (joined_bytes (take (i + 1) pieces)) ps (rest ++ piece.items)
SplitsInto-piece pieces i limit piece ps rest within is split =
    let before = take i pieces in
    let grown : joined_bytes (take (i + 1) pieces) ≡ joined_bytes before ++ piece.items =
    ap joined_bytes (take_more pieces i piece within ∙ ap (λ p. before ++ p ∷ []) (sym is))
    ∙ joined_bytes-append before (piece ∷ [])
    ∙ ap (λ xs. joined_bytes before ++ xs) (append-nil piece.items) in
    let longer = SplitsInto-append limit (joined_bytes before) ps rest piece.items split in
    subst (λ s. SplitsInto limit s ps (rest ++ piece.items)) (sym grown) longer

-- the pieces after a length past the limit change nothing
pub stopped : (pieces : Pieces) (i limit : ℕ) (ps : List (List ℕ)) (rest : List ℕ)
    → SplitsInto limit (joined_bytes (take i pieces)) ps rest → IsTooLong limit rest
    → IsReading limit (joined_bytes pieces) ps true
stopped pieces i limit ps rest split long =
    let before = joined_bytes (take i pieces) in
    let more = joined_bytes (drop i pieces) in
    let all : joined_bytes pieces ≡ before ++ more =
    ap joined_bytes (sym (take-append-drop i pieces)) ∙ joined_bytes-append (take i pieces) (drop i pieces) in
    record {
      rest = rest ++ more;
      split = subst (λ s. SplitsInto limit s ps (rest ++ more)) (sym all) (SplitsInto-append limit before ps rest more split);
      ended = IsTooLong-append limit rest more long;
    }

-- an unframer that has cut all frames of the stream that are there
pub record StandsAt (limit : ℕ) (stream : List ℕ) (payloads : List (List ℕ)) (too_long : Bool) (held : Incoming) : Type 0 where
  pub limit_is : held.limit ≡ limit
  pub split : SplitsInto limit stream payloads held.rest
  pub ended : EndsIn too_long limit held.rest

TakesFrames-StandsAt : (limit : ℕ) (stream : List ℕ) (before after : List (List ℕ)) (fed new : Incoming) (too_long : Bool)
    → fed.limit ≡ limit → SplitsInto limit stream before fed.rest → TakesFrames fed before too_long new after
    → StandsAt limit stream after too_long new
TakesFrames-StandsAt limit stream before after fed new too_long at split takes =
    let split_fed = subst (λ m. SplitsInto m stream before fed.rest) (sym at) split in
    record {
      limit_is = takes.limit ∙ at;
      split = subst (λ m. SplitsInto m stream after new.rest) at (takes.taken stream split_fed);
      ended = subst (λ m. EndsIn too_long m new.rest) at takes.ended;
    }

-- a piece is fed, and then its frames are taken
pub StandsAt-piece : (pieces : Pieces) (i limit : ℕ) (piece : Vec ℕ Global) (bytes : List ℕ) (before after : List (List ℕ)) (held fed new : Incoming) (too_long : Bool)
    → i < length pieces → piece ≡ get_or pieces i piece → bytes ≡ piece.items
    → held.limit ≡ limit → SplitsInto limit (joined_bytes (take i pieces)) before held.rest
    → fed ≡ with_rest held (held.rest ++ bytes) → TakesFrames fed before too_long new after
    → StandsAt limit (joined_bytes (take (i + 1) pieces)) after too_long new
StandsAt-piece pieces i limit piece bytes before after held fed new too_long within is bytes_are at split fed_is takes =
    let stream = joined_bytes (take (i + 1) pieces) in
    let limit_is : fed.limit ≡ limit = ap (λ (u : Incoming). u.limit) fed_is ∙ at in
    let rest_is : fed.rest ≡ held.rest ++ piece.items =
    ap (λ (u : Incoming). u.rest) fed_is ∙ ap (λ xs. held.rest ++ xs) bytes_are in
    let longer = SplitsInto-piece pieces i limit piece before held.rest within is split in
    TakesFrames-StandsAt limit stream before after fed new too_long limit_is (subst (λ r. SplitsInto limit stream before r) (sym rest_is) longer) takes

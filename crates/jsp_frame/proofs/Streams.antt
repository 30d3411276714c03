-- How the splitting of a stream into frames grows with the stream.
use Rattle.std.proofs.Common.{◌≡◌, ℕ, ◌<◌, List, [], ◌∷◌, ◌++◌, flat_map, refl, ap, sym, ◌∙◌, subst, arith, append_assoc, append-nil, length-append}
use Rattle.std.proofs.lemmas.Grind.{flat_map-append}
use Rattle.std.proofs.lemmas.List.{take-append-le}
use Rattle.std.specs.Int.{w32, from_be_bytes}
use Rattle.jsp_frame.specs.Stream.{frame_of, named_length, IsTooLong, BeginsWith, AreWithin, SplitsInto}

AreWithin-append : (limit : ℕ) (ps qs : List (List ℕ))
    → AreWithin limit ps → AreWithin limit qs → AreWithin limit (ps ++ qs)
AreWithin-append limit [] qs first second = second
AreWithin-append limit (p ∷ ps) qs first second = (first.0, AreWithin-append limit ps qs first.1 second)

flat_map-frame_of : (ps qs : List (List ℕ)) (rest : List ℕ)
    → flat_map frame_of (ps ++ qs) ++ rest ≡ flat_map frame_of ps ++ (flat_map frame_of qs ++ rest)
flat_map-frame_of ps qs rest =
    ap (λ xs. xs ++ rest) (flat_map-append frame_of ps qs)
    ∙ append_assoc (flat_map frame_of ps) (flat_map frame_of qs) rest

-- no frame is taken yet
pub SplitsInto-nil : (limit : ℕ) (stream : List ℕ) → SplitsInto limit stream [] stream
SplitsInto-nil limit stream = record { within = tt; whole = refl }

-- more bytes come, which go to the rest
pub SplitsInto-append : (limit : ℕ) (stream : List ℕ) (ps : List (List ℕ)) (rest more : List ℕ)
    → SplitsInto limit stream ps rest → SplitsInto limit (stream ++ more) ps (rest ++ more)
SplitsInto-append limit stream ps rest more split = record {
  within = split.within;
  whole = ap (λ s. s ++ more) split.whole ∙ append_assoc (flat_map frame_of ps) rest more;
}

-- the rest is split in its turn
pub SplitsInto-join : (limit : ℕ) (stream : List ℕ) (ps qs : List (List ℕ)) (rest last : List ℕ)
    → SplitsInto limit stream ps rest → SplitsInto limit rest qs last
    → SplitsInto limit stream (ps ++ qs) last
SplitsInto-join limit stream ps qs rest last first second = record {
  within = AreWithin-append limit ps qs first.within second.within;
  whole = first.whole ∙ ap (λ r. flat_map frame_of ps ++ r) second.whole ∙ sym (flat_map-frame_of ps qs last);
}

-- one frame more is taken
pub SplitsInto-frame : (limit : ℕ) (stream : List ℕ) (ps : List (List ℕ)) (rest payload last : List ℕ)
    → SplitsInto limit stream ps rest → BeginsWith limit rest payload last
    → SplitsInto limit stream (ps ++ payload ∷ []) last
SplitsInto-frame limit stream ps rest payload last split begins =
    let one : SplitsInto limit rest (payload ∷ []) last = record {
      within = (begins.within, tt);
      whole = begins.whole ∙ ap (λ frame. frame ++ last) (sym (append-nil (frame_of payload)));
    } in
    SplitsInto-join limit stream ps (payload ∷ []) rest last split one

-- more bytes leave a length past the limit
pub IsTooLong-append : (limit : ℕ) (rest more : List ℕ) → IsTooLong limit rest → IsTooLong limit (rest ++ more)
IsTooLong-append limit rest more long =
    let same : named_length (rest ++ more) ≡ named_length rest =
    ap (from_be_bytes w32) (take-append-le 4 rest more long.0) in
    (omega (arith, length-append rest more), subst (λ n. limit < n) (sym same) long.1)

-- How the frames of a line's stream grow with the stream, from version to version.
use Rattle.std.proofs.Common.{◌≡◌, ℕ, List, [], ◌∷◌, ◌++◌, flat_map, refl, ap, sym, ◌∙◌, append_assoc, append-nil}
use Rattle.std.proofs.lemmas.Grind.{flat_map-append}
use Rattle.jsp_wire.specs.declared.ask.Version.{Version}
use Rattle.jsp_frame.specs.Stream.{frame_of, BeginsWith}
use Rattle.jsp_drive.specs.Heard.{heard}
use Rattle.jsp_drive.specs.Versions.{longest, version_after, version_behind, heard_each, AreWithin, SplitsInto}

-- ---- frames behind frames

pub version_behind-append : (v : Version) (ps qs : List (List ℕ)) → version_behind v (ps ++ qs) ≡ version_behind (version_behind v ps) qs
version_behind-append v [] qs = refl
version_behind-append v (p ∷ ps) qs = version_behind-append (version_after v p) ps qs

pub heard_each-append : (s : ℕ) (v : Version) (ps qs : List (List ℕ)) → heard_each s v (ps ++ qs) ≡ heard_each s v ps ++ heard_each s (version_behind v ps) qs
heard_each-append s v [] qs = refl
heard_each-append s v (p ∷ ps) qs = ap (λ w. heard s v p ∷ w) (heard_each-append s (version_after v p) ps qs)

-- what is asked by these frames and one more
pub heard_each-more : (s : ℕ) (v : Version) (ps : List (List ℕ)) (p : List ℕ) → heard_each s v (ps ++ p ∷ []) ≡ heard_each s v ps ++ heard s (version_behind v ps) p ∷ []
heard_each-more s v ps p = heard_each-append s v ps (p ∷ [])

AreWithin-append : (v : Version) (ps qs : List (List ℕ)) → AreWithin v ps → AreWithin (version_behind v ps) qs → AreWithin v (ps ++ qs)
AreWithin-append v [] qs first second = second
AreWithin-append v (p ∷ ps) qs first second = (first.0, AreWithin-append (version_after v p) ps qs first.1 second)

flat_map-frame_of : (ps qs : List (List ℕ)) (rest : List ℕ)
    → flat_map frame_of (ps ++ qs) ++ rest ≡ flat_map frame_of ps ++ (flat_map frame_of qs ++ rest)
flat_map-frame_of ps qs rest =
    ap (λ xs. xs ++ rest) (flat_map-append frame_of ps qs)
    ∙ append_assoc (flat_map frame_of ps) (flat_map frame_of qs) rest

-- ---- streams

-- no frame is taken yet
pub SplitsInto-nil : (v : Version) (stream : List ℕ) → SplitsInto v stream [] stream
SplitsInto-nil v stream = record { within = tt; whole = refl }

-- more bytes come, which go to the rest
pub SplitsInto-append : (v : Version) (stream : List ℕ) (ps : List (List ℕ)) (rest more : List ℕ)
    → SplitsInto v stream ps rest → SplitsInto v (stream ++ more) ps (rest ++ more)
SplitsInto-append v stream ps rest more split = record {
  within = split.within;
  whole = ap (λ s. s ++ more) split.whole ∙ append_assoc (flat_map frame_of ps) rest more;
}

-- the rest is split in its turn, in the version behind the frames before it
pub SplitsInto-join : (v : Version) (stream : List ℕ) (ps qs : List (List ℕ)) (rest last : List ℕ)
    → SplitsInto v stream ps rest → SplitsInto (version_behind v ps) rest qs last
    → SplitsInto v stream (ps ++ qs) last
SplitsInto-join v stream ps qs rest last first second = record {
  within = AreWithin-append v ps qs first.within second.within;
  whole = first.whole ∙ ap (λ r. flat_map frame_of ps ++ r) second.whole ∙ sym (flat_map-frame_of ps qs last);
}

-- one frame more is taken
pub SplitsInto-frame : (v : Version) (stream : List ℕ) (ps : List (List ℕ)) (rest payload last : List ℕ)
    → SplitsInto v stream ps rest → BeginsWith (longest (version_behind v ps)) rest payload last
    → SplitsInto v stream (ps ++ payload ∷ []) last
SplitsInto-frame v stream ps rest payload last split begins =
    let one : SplitsInto (version_behind v ps) rest (payload ∷ []) last = record {
      within = (begins.within, tt);
      whole = begins.whole ∙ ap (λ frame. frame ++ last) (sym (append-nil (frame_of payload)));
    } in
    SplitsInto-join v stream ps (payload ∷ []) rest last split one

-- A stream has one reading, though its frames may change the version.
use Rattle.std.proofs.Common.{◌≡◌, ℕ, ◌+◌, ◌^◌, ◌<◌, List, [], ◌∷◌, ◌++◌, length, zero, suc, flat_map, refl, ap₂, sym, ◌∙◌, inl, inr, arith, append_assoc}
use Rattle.jsp_wire.specs.declared.ask.Version.{Version}
use Rattle.jsp_wire.specs.declared.ask.Version.TheVariants as version
use Rattle.jsp_frame.specs.Stream.{frame_of}
use Rattle.jsp_frame.proofs.Readings.{AreBytes, one_frame, no_frame, frame_or_none, front_payload, behind_front, behind_front-bytes, behind_front-less, HasFrame-BeginsWith}
use Rattle.jsp_drive.specs.Versions.{longest, version_after, SplitsInto, HasPayloads, HasReading}
use Rattle.jsp_drive.proofs.Splitting.{SplitsInto-nil, SplitsInto-join, SplitsInto-frame}

-- a length within the limit fits its four bytes
longest-fits : (v : Version) → longest v < 2 ^ 32
longest-fits version.One = omega arith
longest-fits version.Two = omega arith

-- what follows the first frame
behind : (v : Version) (p : List ℕ) (ps : List (List ℕ)) (stream rest : List ℕ) → HasPayloads v stream (p ∷ ps) rest
    → HasPayloads (version_after v p) (flat_map frame_of ps ++ rest) ps rest
behind v p ps stream rest reads = record { split = record { within = reads.split.within.1; whole = refl }; ended = reads.ended }

begins : (p : List ℕ) (ps : List (List ℕ)) (stream rest : List ℕ) → stream ≡ flat_map frame_of (p ∷ ps) ++ rest → stream ≡ frame_of p ++ (flat_map frame_of ps ++ rest)
begins p ps stream rest whole = whole ∙ append_assoc (frame_of p) (flat_map frame_of ps) rest

-- two readings are the same
pub Reads-unique : (v : Version) (stream : List ℕ) (ps qs : List (List ℕ)) (rest last : List ℕ)
    → HasPayloads v stream ps rest → HasPayloads v stream qs last → (ps ≡ qs) × (rest ≡ last)
Reads-unique v stream [] [] rest last one two = (refl, sym one.split.whole ∙ two.split.whole)
Reads-unique v stream [] (q ∷ qs) rest last one two =
    absurd (no_frame (longest v) q (flat_map frame_of qs ++ last) rest (longest-fits v) two.split.within.0
    (sym one.split.whole ∙ begins q qs stream last two.split.whole) one.ended)
Reads-unique v stream (p ∷ ps) [] rest last one two =
    absurd (no_frame (longest v) p (flat_map frame_of ps ++ rest) last (longest-fits v) one.split.within.0
    (sym two.split.whole ∙ begins p ps stream rest one.split.whole) two.ended)
Reads-unique v stream (p ∷ ps) (q ∷ qs) rest last one two =
    let fits = longest-fits v in
    let first = one_frame p q (flat_map frame_of ps ++ rest) (flat_map frame_of qs ++ last) (omega (arith, one.split.within.0)) (omega (arith, two.split.within.0))
    (sym (begins p ps stream rest one.split.whole) ∙ begins q qs stream last two.split.whole) in
    let mine = behind v p ps stream rest one in
    let other : HasPayloads (version_after v p) (flat_map frame_of ps ++ rest) qs last =
    rw (first.0, first.1) (behind v q qs stream last two) in
    let more = Reads-unique (version_after v p) (flat_map frame_of ps ++ rest) ps qs rest last mine other in
    (ap₂ (λ x xs. x ∷ xs) first.0 more.0, more.1)

-- frames are taken while there are any
some_reading : (steps : ℕ) (v : Version) (stream : List ℕ) → AreBytes stream → length stream < steps → HasReading v stream
some_reading zero v stream bytes short = absurd (omega arith)
some_reading (suc steps) v stream bytes short =
    elim (frame_or_none (longest v) stream) [
      | inl has ↦
          let p = front_payload stream in
          let rest = behind_front stream in
          let one = SplitsInto-frame v stream [] stream p rest (SplitsInto-nil v stream) (HasFrame-BeginsWith (longest v) stream bytes has) in
          let more = some_reading steps (version_after v p) rest (behind_front-bytes stream bytes) (omega (arith, short, behind_front-less (longest v) stream has)) in
          let split : SplitsInto v stream (p ∷ more.0) more.1 = SplitsInto-join v stream (p ∷ []) more.0 rest more.1 one more.2.split in
          (p ∷ more.0, more.1, record { split = split; ended = more.2.ended })
      | inr none ↦ ([], stream, record { split = SplitsInto-nil v stream; ended = none })
    ]

-- a stream of bytes has a reading
pub Reads-exists : (v : Version) (stream : List ℕ) → AreBytes stream → HasReading v stream
Reads-exists v stream bytes = some_reading (length stream + 1) v stream bytes (omega arith)

-- A stream of bytes has one reading.
use Rattle.std.proofs.Common.{◌≡◌, ℕ, ◌+◌, ◌^◌, ◌<◌, ◌≤◌, ◌⊎◌, List, [], ◌∷◌, ◌++◌, length, get_or, take, drop, zero, suc, flat_map, Bool, true, false, refl, ap, ap₂, sym, ◌∙◌, inl, inr, arith, append_assoc, append-nil, length-append, length-drop, take_at, drop_at}
use Rattle.std.proofs.lemmas.Bool.{cases_lt}
use Rattle.std.proofs.lemmas.List.{take-append-drop, length-take-le, get_or-take, get_or-drop, get_or_past}
use Rattle.std.proofs.lemmas.Nat.{be_bytes_4, from_be_bytes-to_be_bytes_4}
use Rattle.std.specs.Int.{w32, to_be_bytes}
use Rattle.jsp_frame.specs.Stream.{frame_of, named_length, HasNoFrame, BeginsWith, SplitsInto, HasFrames}
use Rattle.jsp_frame.specs.Reading.{EndsIn, HasReading}
use Rattle.jsp_frame.proofs.Streams.{SplitsInto-nil, SplitsInto-join, SplitsInto-frame}

-- ---- at most one

named_length-frame_of : (payload rest : List ℕ) → length payload < 2 ^ 32
    → named_length (frame_of payload ++ rest) ≡ length payload
named_length-frame_of payload rest fits = from_be_bytes-to_be_bytes_4 (length payload) fits

-- a frame and what follows it are determined
pub one_frame : (p q x y : List ℕ) → length p < 2 ^ 32 → length q < 2 ^ 32
    → frame_of p ++ x ≡ frame_of q ++ y → (p ≡ q) × (x ≡ y)
one_frame p q x y p_fits q_fits same =
    let len : length p ≡ length q =
    sym (named_length-frame_of p x p_fits) ∙ ap named_length same ∙ named_length-frame_of q y q_fits in
    let bodies : p ++ x ≡ q ++ y = ap (drop 4) same in (
      sym (take_at p x (length p) refl) ∙ ap (take (length p)) bodies ∙ take_at q y (length p) (sym len),
      sym (drop_at p x (length p) refl) ∙ ap (drop (length p)) bodies ∙ drop_at q y (length p) (sym len),
    )

-- bytes with no frame at the front don't begin with one
pub no_frame : (limit : ℕ) (payload rest bytes : List ℕ) → limit < 2 ^ 32 → length payload ≤ limit
    → bytes ≡ frame_of payload ++ rest → HasNoFrame limit bytes → ⊥
no_frame limit payload rest bytes fits within is none =
    let named : named_length bytes ≡ length payload =
    ap named_length is ∙ named_length-frame_of payload rest (omega arith) in
    let len : length bytes ≡ 4 + (length payload + length rest) =
    ap length is ∙ omega (arith, length-append payload rest) in
    elim none [
      | inl unfinished ↦ elim unfinished [ inl short ↦ omega arith | inr part ↦ omega arith ]
      | inr long ↦ omega arith
    ]

-- A reading has every frame that splits off, and goes on with a reading of the rest.
pub Reads-goes_on : (limit : ℕ) (ps all : List (List ℕ)) (stream rest last : List ℕ) → limit < 2 ^ 32
    → SplitsInto limit stream ps rest → HasFrames limit stream all last
    → (qs : List (List ℕ)) × (all ≡ ps ++ qs) × HasFrames limit rest qs last
Reads-goes_on limit [] all stream rest last fits split reads =
    let split_rest : SplitsInto limit rest all last = record { within = reads.split.within; whole = sym split.whole ∙ reads.split.whole } in
    (all, refl, record { split = split_rest; ended = reads.ended })
Reads-goes_on limit (p ∷ ps) [] stream rest last fits split reads =
    let behind = flat_map frame_of ps ++ rest in
    absurd (no_frame limit p behind last fits split.within.0 (sym reads.split.whole ∙ split.whole ∙ append_assoc (frame_of p) (flat_map frame_of ps) rest) reads.ended)
Reads-goes_on limit (p ∷ ps) (q ∷ qs) stream rest last fits split reads =
    let behind = flat_map frame_of ps ++ rest in
    let behind_q = flat_map frame_of qs ++ last in
    let same : frame_of p ++ behind ≡ frame_of q ++ behind_q =
    sym (append_assoc (frame_of p) (flat_map frame_of ps) rest) ∙ sym split.whole ∙ reads.split.whole ∙ append_assoc (frame_of q) (flat_map frame_of qs) last in
    let first = one_frame p q behind behind_q (omega (arith, split.within.0)) (omega (arith, reads.split.within.0)) same in
    let split_behind : SplitsInto limit behind ps rest = record { within = split.within.1; whole = refl } in
    let reads_behind : HasFrames limit behind qs last = record { split = record { within = reads.split.within.1; whole = first.1 }; ended = reads.ended } in
    let more = Reads-goes_on limit ps qs behind rest last fits split_behind reads_behind in
    (more.0, ap₂ (λ x xs. x ∷ xs) (sym first.0) more.1, more.2)

-- bytes with no frame at the front are split into none
no_more : (limit : ℕ) (bytes : List ℕ) (payloads : List (List ℕ)) (rest : List ℕ) → limit < 2 ^ 32
    → HasNoFrame limit bytes → SplitsInto limit bytes payloads rest → (payloads ≡ []) × (bytes ≡ rest)
no_more limit bytes [] rest fits none split = (refl, split.whole)
no_more limit bytes (p ∷ ps) rest fits none split =
    absurd (no_frame limit p (flat_map frame_of ps ++ rest) bytes fits split.within.0 (split.whole ∙ append_assoc (frame_of p) (flat_map frame_of ps) rest) none)

-- two readings are the same
pub Reads-unique : (limit : ℕ) (stream : List ℕ) (ps qs : List (List ℕ)) (rest last : List ℕ) → limit < 2 ^ 32
    → HasFrames limit stream ps rest → HasFrames limit stream qs last → (ps ≡ qs) × (rest ≡ last)
Reads-unique limit stream ps qs rest last fits one two =
    let on = Reads-goes_on limit ps qs stream rest last fits one.split two in
    let none = no_more limit rest on.0 last fits one.ended on.2.split in
    (sym (append-nil ps) ∙ ap (λ xs. ps ++ xs) (sym none.0) ∙ sym on.1, none.1)

-- ---- at least one

-- a whole frame stands at the front
pub record HasFrame (limit : ℕ) (bytes : List ℕ) : Type 0 where
  pub within : named_length bytes ≤ limit
  pub whole : 4 + named_length bytes ≤ length bytes

pub frame_or_none : (limit : ℕ) (bytes : List ℕ) → HasFrame limit bytes ⊎ HasNoFrame limit bytes
frame_or_none limit bytes =
    elim (cases_lt (length bytes) 4) [
      | inl short ↦ inr (inl (inl short))
      | inr head ↦ elim (cases_lt limit (named_length bytes)) [
        | inl long ↦ inr (inr (head, long))
        | inr within ↦ elim (cases_lt (length bytes) (4 + named_length bytes)) [
          | inl part ↦ inr (inl (inr (within, part)))
          | inr whole ↦ inl (record { within = within; whole = whole })
        ]
      ]
    ]

abbrev pub AreBytes : List ℕ → Type 0
AreBytes xs = (i : ℕ) → get_or xs i 0 < 256

take-bytes : (xs : List ℕ) → AreBytes xs → length (take 4 xs) ≡ 4 → AreBytes (take 4 xs)
take-bytes xs bytes four i =
    elim (cases_lt i 4) [
      | inl below ↦ rw (get_or-take 4 xs i 0 below) (bytes i)
      | inr past ↦ rw (get_or_past (take 4 xs) i 0 (omega arith)) (omega arith)
    ]

abbrev pub front_payload : List ℕ → List ℕ
front_payload bytes = take (named_length bytes) (drop 4 bytes)

abbrev pub behind_front : List ℕ → List ℕ
behind_front bytes = drop (named_length bytes) (drop 4 bytes)

-- the frame at the front
pub HasFrame-BeginsWith : (limit : ℕ) (bytes : List ℕ) → AreBytes bytes → HasFrame limit bytes
    → BeginsWith limit bytes (front_payload bytes) (behind_front bytes)
HasFrame-BeginsWith limit bytes each has =
    let n = named_length bytes in
    let body = drop 4 bytes in
    let len : length (take n body) ≡ n = length-take-le n body (omega (arith, has.whole, length-drop 4 bytes)) in
    let four : length (take 4 bytes) ≡ 4 = length-take-le 4 bytes (omega (arith, has.whole)) in
    let head : to_be_bytes w32 n ≡ take 4 bytes = be_bytes_4 (take 4 bytes) n four (take-bytes bytes each four) refl in
    record {
      within = omega (arith, len, has.within);
      whole = sym (append_assoc (to_be_bytes w32 (length (take n body))) (take n body) (drop n body)
          ∙ ap₂ (λ m rest. to_be_bytes w32 m ++ rest) len (take-append-drop n body)
          ∙ ap (λ xs. xs ++ body) head
          ∙ take-append-drop 4 bytes);
    }

-- what is behind it is bytes too, and fewer
pub behind_front-bytes : (bytes : List ℕ) → AreBytes bytes → AreBytes (behind_front bytes)
behind_front-bytes bytes each i =
    let n = named_length bytes in
    rw (get_or-drop n (drop 4 bytes) i 0, get_or-drop 4 bytes (n + i) 0) (each (4 + (n + i)))

pub behind_front-less : (limit : ℕ) (bytes : List ℕ) → HasFrame limit bytes → length (behind_front bytes) < length bytes
behind_front-less limit bytes has = omega (arith, has.whole, length-drop (named_length bytes) (drop 4 bytes), length-drop 4 bytes)

-- frames are taken while there are any
some_reading : (steps limit : ℕ) (stream : List ℕ) → AreBytes stream → length stream < steps → HasReading limit stream
some_reading zero limit stream bytes short = absurd (omega arith)
some_reading (suc steps) limit stream bytes short =
    elim (frame_or_none limit stream) [
      | inl has ↦
          let p = front_payload stream in
          let rest = behind_front stream in
          let one = SplitsInto-frame limit stream [] stream p rest (SplitsInto-nil limit stream) (HasFrame-BeginsWith limit stream bytes has) in
          let less : length rest < steps = omega (arith, short, behind_front-less limit stream has) in
          let more = some_reading steps limit rest (behind_front-bytes stream bytes) less in
          let split : SplitsInto limit stream (p ∷ more.0) more.1 = SplitsInto-join limit stream (p ∷ []) more.0 rest more.1 one more.2.split in
          (p ∷ more.0, more.1, record { split = split; ended = more.2.ended })
      | inr none ↦ ([], stream, record { split = SplitsInto-nil limit stream; ended = none })
    ]

-- a stream of bytes has a reading
pub Reads-exists : (limit : ℕ) (stream : List ℕ) → AreBytes stream → HasReading limit stream
Reads-exists limit stream bytes = some_reading (length stream + 1) limit stream bytes (omega arith)

-- what `frames_of` answers is the reading
pub EndsIn-Reads : (limit : ℕ) (stream : List ℕ) (ps : List (List ℕ)) (too_long : Bool) (rest : List ℕ)
    → SplitsInto limit stream ps rest → EndsIn too_long limit rest → HasFrames limit stream ps rest
EndsIn-Reads limit stream ps true rest split ended = record { split = split; ended = inr ended }
EndsIn-Reads limit stream ps false rest split ended = record { split = split; ended = inl ended }

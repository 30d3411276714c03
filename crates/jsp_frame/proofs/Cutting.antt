-- What the codec of length-delimited frames cuts, in the words of a stream.
use Rattle.std.proofs.Common.{◌≡◌, ℕ, ◌+◌, ◌^◌, ◌<◌, ◌≤◌, ◌⊎◌, List, [], ◌∷◌, length, drop, pos, None, Some, Ok, Err, Result, ap, ap₂, sym, ◌∙◌, subst, subst₂, inl, inr, arith, length-drop}
use Rattle.std.proofs.lemmas.Bool.{cond-true, lt-ltb}
use Rattle.std.specs.IoError.{error_kind}
use Rattle.std.specs.declared.io.Error.{Error}
use Rattle.std.specs.declared.io.ErrorKind.TheVariants.{InvalidData, OutOfMemory}
use Rattle.bytes.specs.Filled.{Filled}
use Rattle.tokio_util.specs.declared.codec.length_delimited.LengthDelimitedCodec.{LengthDelimitedCodec}
use Rattle.tokio_util.specs.Codec.Next.{partial, Decodes}
use Rattle.tokio_util.specs.Codec.LengthField.{field_value, add_adjustment, with_reachable_limit}
use Rattle.tokio_util.specs.Codec.LengthDelimited.{Cut, frame, too_big, cut_in, cut_adjusted, cut, Answers, gives_frames}
use Rattle.tokio_util.specs.Codec.LengthDelimited as codec
use Rattle.tokio_util.specs.Codec.LengthDelimitedLaws.{cut_payload_whole, cut_frame_big, cut_frame_head}
use Rattle.tokio_util.proofs.CodecLemmas.Next.{Resumes_now}
use Rattle.jsp_frame.specs.Codec.{layout_within, CutsFrames}
use Rattle.jsp_frame.specs.Stream.{named_length, IsUnfinished, IsTooLong, HasNoFrame, BeginsWith}
use Rattle.jsp_frame.proofs.Readings.{HasFrame, AreBytes, frame_or_none, front_payload, behind_front, HasFrame-BeginsWith}

pub with_reachable_limit-layout_within : (limit : ℕ) → limit < 2 ^ 32
    → with_reachable_limit (layout_within limit) ≡ layout_within limit
with_reachable_limit-layout_within limit fits = ap layout_within (omega arith)

-- ---- what it cuts

field_value-layout_within : (limit : ℕ) (bytes : List ℕ) → 4 ≤ length bytes
    → field_value (layout_within limit) bytes ≡ named_length bytes
field_value-layout_within limit [] h = absurd (omega arith)
field_value-layout_within limit (a ∷ []) h = absurd (omega arith)
field_value-layout_within limit (a ∷ b ∷ []) h = absurd (omega arith)
field_value-layout_within limit (a ∷ b ∷ c ∷ []) h = absurd (omega arith)
field_value-layout_within limit (a ∷ b ∷ c ∷ d ∷ rest) h = omega arith

cut-IsTooLong : (c : LengthDelimitedCodec) (limit : ℕ) (bytes : List ℕ) → CutsFrames c limit
    → IsTooLong limit bytes → cut c bytes ≡ too_big
cut-IsTooLong c limit bytes cuts long =
    let value = field_value-layout_within limit bytes long.0 in
    ap₂ (λ l s. cut_in l s bytes) cuts.layout cuts.at_head
    ∙ cut_frame_big (layout_within limit) bytes long.0 (omega (arith, value))

add_adjustment-zero : (n : ℕ) → n < 2 ^ 64 → add_adjustment n (pos 0) ≡ Some n
add_adjustment-zero n fits = cond-true _ _ _ (lt-ltb (n + 0) (2 ^ 64) (omega arith)) ∙ ap Some (omega arith)

cut-HasFrame : (c : LengthDelimitedCodec) (limit : ℕ) (bytes : List ℕ) → CutsFrames c limit
    → HasFrame limit bytes → cut c bytes ≡ frame (front_payload bytes) (behind_front bytes)
cut-HasFrame c limit bytes cuts has =
    let within : named_length bytes ≤ limit = has.within in
    let head : 4 ≤ length bytes = omega (arith, has.whole) in
    let fits : limit < 2 ^ 32 = cuts.fits in
    let value = field_value-layout_within limit bytes head in
    ap₂ (λ l s. cut_in l s bytes) cuts.layout cuts.at_head
    ∙ cut_frame_head (layout_within limit) bytes head (omega (arith, value))
    ∙ ap (λ n. cut_adjusted (add_adjustment n (pos 0)) (drop 4 bytes)) value
    ∙ ap (λ o. cut_adjusted o (drop 4 bytes)) (add_adjustment-zero (named_length bytes) (omega arith))
    ∙ cut_payload_whole (named_length bytes) (drop 4 bytes) (omega (arith, has.whole, length-drop 4 bytes))

-- ---- what it answers

at_frame : (c t : LengthDelimitedCodec) (limit : ℕ) (xs ys : List ℕ) (r : Result Filled Error) → CutsFrames c limit
    → HasFrame limit xs → Answers c xs (cut c xs) r t ys
    → Answers c xs (frame (front_payload xs) (behind_front xs)) r t ys
at_frame c t limit xs ys r cuts has answer =
    subst (λ (v : Cut). Answers c xs v r t ys) (cut-HasFrame c limit xs cuts has) answer

at_too_long : (c t : LengthDelimitedCodec) (limit : ℕ) (xs ys : List ℕ) (r : Result Filled Error) → CutsFrames c limit
    → IsTooLong limit xs → Answers c xs (cut c xs) r t ys → Answers c xs too_big r t ys
at_too_long c t limit xs ys r cuts long answer =
    subst (λ (v : Cut). Answers c xs v r t ys) (cut-IsTooLong c limit xs cuts long) answer

-- what is not unfinished has a frame at its front, or a length past the limit
abbrev IsFinished : ℕ → List ℕ → Type 0
IsFinished limit bytes = IsUnfinished limit bytes → ⊥

front_of : (limit : ℕ) (bytes : List ℕ) → IsFinished limit bytes → HasFrame limit bytes ⊎ IsTooLong limit bytes
front_of limit bytes finished =
    elim (frame_or_none limit bytes) [
      | inl has ↦ inl has
      | inr none ↦ elim none [ inl unfinished ↦ absurd (finished unfinished) | inr long ↦ inr long ]
    ]

-- then it does not ask for more bytes
pub not_partial : (c t : LengthDelimitedCodec) (limit : ℕ) (xs ys : List ℕ) → CutsFrames c limit → IsFinished limit xs
    → Decodes gives_frames c xs (Ok None) t ys → ⊥
not_partial c t limit xs ys cuts finished none =
    let more = Resumes_now gives_frames c xs t ys partial none.1 none.0 in
    elim (front_of limit xs finished) [
      | inl has ↦ subst codec.IsUnfinished (cut-HasFrame c limit xs cuts has) more
      | inr long ↦ subst codec.IsUnfinished (cut-IsTooLong c limit xs cuts long) more
    ]

-- a payload that it answers is that of the frame at the front
pub payload_at_front : (c t : LengthDelimitedCodec) (limit : ℕ) (xs ys : List ℕ) (payload : Filled) → CutsFrames c limit → IsFinished limit xs
    → AreBytes xs → Decodes gives_frames c xs (Ok (Some payload)) t ys → BeginsWith limit xs payload.items ys
payload_at_front c t limit xs ys payload cuts finished bytes some =
    elim (front_of limit xs finished) [
      | inl has ↦
          let answer = at_frame c t limit xs ys (Ok payload) cuts has some in
          subst₂ (λ p rest. BeginsWith limit xs p rest) (sym answer.0) (sym answer.2) (HasFrame-BeginsWith limit xs bytes has)
      | inr long ↦ absurd (at_too_long c t limit xs ys (Ok payload) cuts long some)
    ]

-- it finds the data wrong only where the length is past the limit, and then takes nothing
pub wrong_is_too_long : (c t : LengthDelimitedCodec) (limit : ℕ) (xs ys : List ℕ) (e : Error) → CutsFrames c limit → IsFinished limit xs
    → error_kind e ≡ InvalidData → Decodes gives_frames c xs (Err e) t ys → IsTooLong limit xs × (ys ≡ xs)
wrong_is_too_long c t limit xs ys e cuts finished kind err =
    elim (front_of limit xs finished) [
      | inl has ↦
          let other : error_kind e ≡ OutOfMemory = (at_frame c t limit xs ys (Err e) cuts has err).0 in
          absurd (cc)
      | inr long ↦ (long, (at_too_long c t limit xs ys (Err e) cuts long err).2)
    ]

-- with no frame at the front it answers no payload
pub no_payload : (c t : LengthDelimitedCodec) (limit : ℕ) (xs ys : List ℕ) (payload : Filled) → CutsFrames c limit → IsFinished limit xs
    → Decodes gives_frames c xs (Ok (Some payload)) t ys → HasNoFrame limit xs → ⊥
no_payload c t limit xs ys payload cuts finished some none =
    elim none [
      | inl unfinished ↦ finished unfinished
      | inr long ↦ at_too_long c t limit xs ys (Ok payload) cuts long some
    ]

-- and no other error
pub no_other_error : (c t : LengthDelimitedCodec) (limit : ℕ) (xs ys : List ℕ) (e : Error) → CutsFrames c limit → IsFinished limit xs
    → Decodes gives_frames c xs (Err e) t ys → HasNoFrame limit xs → error_kind e ≡ InvalidData
no_other_error c t limit xs ys e cuts finished err none =
    elim none [
      | inl unfinished ↦ absurd (finished unfinished)
      | inr long ↦ (at_too_long c t limit xs ys (Err e) cuts long err).0
    ]

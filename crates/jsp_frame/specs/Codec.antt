-- The codec that cuts frames.
use Rattle.std.specs.Prelude.{◌≡◌, ℕ, ◌<◌, ◌^◌}
use Rattle.tokio_util.specs.declared.codec.length_delimited.LengthDelimitedCodec.{LengthDelimitedCodec}
use Rattle.tokio_util.specs.Codec.LengthField.{Layout, default_layout}
use Rattle.tokio_util.specs.Codec.LengthDelimited.{codec_layout, IsAtHead}
use Rattle.jsp_frame.specs.declared.unframer.Phase.{Phase}
use Rattle.jsp_frame.specs.declared.unframer.Phase.TheVariants as phase

-- payloads of at most limit bytes, each after its length in four bytes, the highest first
abbrev pub layout_within : ℕ → Layout
layout_within limit = record default_layout { max_frame_len = limit }

-- the codec cuts such frames, and stands before one
pub record CutsFrames (codec : LengthDelimitedCodec) (limit : ℕ) : Type 0 where
  pub layout : codec_layout codec ≡ layout_within limit
  pub at_head : IsAtHead codec
  pub fits : limit < 2 ^ 32

-- it does so as long as frames can come, and isn't asked after that
abbrev pub CutsWhileOpen : Phase → LengthDelimitedCodec → ℕ → Type 0
CutsWhileOpen phase.Open codec limit = CutsFrames codec limit
CutsWhileOpen _ codec limit = Unit {0}

use Rattle.std.proofs.Common.{◌≡◌, List, ℕ, length}
use Rattle.jsp_frame.specs.Stream.{SplitsInto}
use Rattle.jsp_frame.specs.Unframer.{IsOpen}
use Rattle.jsp_frame.specs.Reading.{payloads_of}
use Rattle.jsp_frame.proofs.reading.take_frames.Given as goal

abbrev pub invariant-frames : goal.invariant-frames
invariant-frames l = record {
  still_open : IsOpen l.unframer;
  limit : l.unframer.limit ≡ l.initial.unframer.limit;
  taken : (stream : List ℕ) → SplitsInto l.initial.unframer.limit stream (payloads_of l.initial.payloads.items) l.initial.unframer.rest
      → SplitsInto l.initial.unframer.limit stream (payloads_of l.payloads.items) l.unframer.rest;
}

abbrev pub decreases-frames : goal.decreases-frames
decreases-frames l = length l.unframer.rest

use Rattle.std.proofs.Common.{◌≡◌, take}
use Rattle.jsp_frame.specs.Stream.{SplitsInto, IsUnfinished}
use Rattle.jsp_frame.specs.Unframer.{IsOpen}
use Rattle.jsp_frame.specs.Reading.{payloads_of, joined_bytes}
use Rattle.jsp_frame.proofs.reading.frames_of.Given as goal

abbrev pub invariant-loop-piece : goal.invariant-loop-piece
invariant-loop-piece l = record {
  still_open : IsOpen l.unframer;
  limit : l.unframer.limit ≡ l.limit;
  split : SplitsInto l.limit (joined_bytes (take l.piece-index l.pieces)) (payloads_of l.payloads.items) l.unframer.rest;
  unfinished : IsUnfinished l.limit l.unframer.rest;
}

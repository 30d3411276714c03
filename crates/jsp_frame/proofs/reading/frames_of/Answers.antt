use Rattle.std.proofs.Common.{◌+◌, true, false}
use Rattle.jsp_frame.specs.Reading.{payloads_of}
use Rattle.jsp_frame.proofs.Pieces.{StandsAt-piece, stopped}
use Rattle.jsp_frame.proofs.reading.frames_of.Goals as goal

pub loop-piece-preserved : goal.loop-piece-preserved
loop-piece-preserved c =
    let inv = c.loop-piece.invariant in
    let takes = rw c.if-branch.false at c.in_ok-take_frames.ensures in
    let at = StandsAt-piece c.args.pieces.now c.loop-piece.piece-index c.args.limit c.piece-item.result c.deref.result.now
    (payloads_of c.loop-piece.payloads.items) (payloads_of c.take_frames.new.payloads.items) c.loop-piece.unframer c.feed.new.self c.take_frames.new.unframer false
    c.loop-piece-test.true c.piece-item.is c.deref.ensures.value inv.limit inv.split (c.in_ok-feed.ensures.appended inv.still_open) takes in
    record { still_open = takes.going_on; limit = at.limit_is; split = at.split; unfinished = at.ended }

pub returns-then-branch : goal.returns-then-branch
returns-then-branch c =
    let inv = c.loop-piece.invariant in
    let takes = rw c.if-branch.true at c.in_ok-take_frames.ensures in
    let at = StandsAt-piece c.args.pieces.now c.loop-piece.piece-index c.args.limit c.piece-item.result c.deref.result.now
    (payloads_of c.loop-piece.payloads.items) (payloads_of c.take_frames.new.payloads.items) c.loop-piece.unframer c.feed.new.self c.take_frames.new.unframer true
    c.loop-piece-test.true c.piece-item.is c.deref.ensures.value inv.limit inv.split (c.in_ok-feed.ensures.appended inv.still_open) takes in
    stopped c.args.pieces.now (c.loop-piece.piece-index + 1) c.args.limit (payloads_of c.take_frames.new.payloads.items) c.take_frames.new.unframer.rest at.split at.ended

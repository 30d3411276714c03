use Rattle.std.proofs.Common.{ap, ◌∙◌}
use Rattle.jsp_wire.specs.Tree.{members_view, members_by_ref}
use Rattle.jsp_wire.proofs.Placed.{put_after, members_by_ref-insert_entry, one_more_in}
use Rattle.std.proofs.Common.{◌+◌, drop}
use Rattle.jsp_wire.proofs.members.ordered.Goals as goal

pub loop-key-preserved : goal.loop-key-preserved
loop-key-preserved c =
    let ms = c.args.members.now in
    let i = c.loop-key.key-index in
    let m = c.loop-key-item.result in
    let old = c.loop-key.found.entries in
    ap (put_after (drop (i + 1) ms)) (ap members_by_ref c.in_ok-insert.ensures.entries ∙ members_by_ref-insert_entry old m.0 _)
    ∙ one_more_in ms i m (members_view ms) (members_by_ref old) c.loop-key-test.true c.loop-key-item.is c.loop-key.invariant

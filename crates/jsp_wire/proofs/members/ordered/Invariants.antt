use Rattle.std.proofs.Common.{◌≡◌, drop}
use Rattle.jsp_wire.specs.Tree.{members_view, members_by_ref}
use Rattle.jsp_wire.proofs.Placed.{put_after}
use Rattle.jsp_wire.proofs.members.ordered.Given as goal

abbrev pub invariant-loop-key : goal.invariant-loop-key
invariant-loop-key l =
    put_after (drop l.key-index l.members) (members_by_ref l.found.entries) ≡ members_view l.members

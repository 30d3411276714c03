use Rattle.std.proofs.Common.{◌≡◌, ◌≤◌, take, length}
use Rattle.serde_json.specs.Find.{get_member}
use Rattle.jsp_wire.specs.Tree.{members_view}
use Rattle.jsp_wire.proofs.tree.member.Given as goal

-- no member behind those that are left has the name
abbrev pub invariant-back : goal.invariant-back
invariant-back l =
    record {
      within : l.left ≤ length l.members;
      same : get_member l.name (members_view (take l.left l.members)) ≡ get_member l.name (members_view l.members);
    }

abbrev pub decreases-back : goal.decreases-back
decreases-back l = l.left

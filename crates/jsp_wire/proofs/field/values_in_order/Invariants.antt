use Rattle.std.proofs.Common.{◌≡◌, drop}
use Rattle.jsp_wire.specs.Tree.{members_in_order}
use Rattle.jsp_wire.specs.Parts.{each_member, value_of}
use Rattle.jsp_wire.proofs.Loop.{with_front}
use Rattle.jsp_wire.proofs.field.values_in_order.Given as goal

-- what is found, and then what is still to be read, is the whole
abbrev pub invariant-loop-name : goal.invariant-loop-name
invariant-loop-name l =
    with_front l.found (each_member value_of (members_in_order (drop l.name-index l.members))) ≡ each_member value_of (members_in_order l.members)

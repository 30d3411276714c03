use Rattle.std.proofs.Common.{◌≡◌}
use Rattle.jsp_wire.specs.Tree.{members_by_ref}
use Rattle.jsp_wire.specs.Parts.{each_member, kind_of}
use Rattle.jsp_wire.proofs.Loop.{with_front}
use Rattle.jsp_wire.proofs.field.kinds_by_ref.Given as goal

-- what is found, and then what is still to be read, is the whole
abbrev pub invariant-loop-name : goal.invariant-loop-name
invariant-loop-name l =
    with_front l.found (each_member kind_of (members_by_ref l.name-iterator)) ≡ each_member kind_of (members_by_ref l.members.entries)

use Rattle.std.proofs.Common.{◌≡◌, take}
use Rattle.jsp_machine.specs.Spaces.{new_spaces}
use Rattle.jsp_machine.proofs.emptiness.spaces_of.Given as goal

abbrev pub invariant-loop-name : goal.invariant-loop-name
invariant-loop-name l = l.spaces ≡ new_spaces (take l.name-index l.names)

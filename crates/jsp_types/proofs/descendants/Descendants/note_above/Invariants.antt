use Rattle.std.proofs.Common.{take}
use Rattle.jsp_types.specs.NameMaps.{looked_up}
use Rattle.jsp_types.specs.Descendants.{IsBelow, Keeps}
use Rattle.jsp_types.proofs.descendants.Descendants.note_above.Given as goal

abbrev pub invariant-above : goal.invariant-above
invariant-above l = record {
  noted : IsBelow (looked_up l.self.shared) l.fn.name (take l.ancestor-index l.above);
  keeps : Keeps (looked_up l.fn.self.shared) (looked_up l.self.shared);
}

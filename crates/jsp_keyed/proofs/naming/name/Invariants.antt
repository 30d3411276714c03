use Rattle.std.proofs.Common.{take}
use Rattle.jsp_keyed.specs.Kept.{IsNamed, Keeps}
use Rattle.jsp_keyed.proofs.naming.name.Given as goal

abbrev pub invariant-places : goal.invariant-places
invariant-places g l = record {
  keeps : Keeps l.fn.hints l.hints;
  named : IsNamed l.hints (g.K.Numbering.number_of l.thing) (take l.place (g.K.Keying.keys_of l.seed l.thing));
}

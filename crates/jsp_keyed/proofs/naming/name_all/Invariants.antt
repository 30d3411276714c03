use Rattle.std.proofs.Common.{take}
use Rattle.jsp_keyed.specs.Kept.{AreNamed, Keeps}
use Rattle.jsp_keyed.proofs.naming.name_all.Given as goal

abbrev pub invariant-things : goal.invariant-things
invariant-things g l = record {
  keeps : Keeps l.fn.hints l.hints;
  named : AreNamed g.K.Numbering.number_of g.K.Keying.keys_of l.seed l.hints (take l.thing-index l.things);
}

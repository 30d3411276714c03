use Rattle.jsp_keyed.specs.Kept.{KeepsOthers}
use Rattle.jsp_keyed.proofs.naming.forget.Given as goal

abbrev pub invariant-places : goal.invariant-places
invariant-places g l = KeepsOthers (g.K.Numbering.number_of l.thing) l.fn.hints l.hints

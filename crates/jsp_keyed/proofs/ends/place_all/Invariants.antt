use Rattle.jsp_keyed.proofs.Ending.{IsPlacing}
use Rattle.jsp_keyed.proofs.ends.place_all.Given as goal

abbrev pub invariant-items : goal.invariant-items
invariant-items l = IsPlacing l.fn.ends l.ends l.items l.item-index

use Rattle.std.proofs.Common.{sym, subst}
use Rattle.jsp_index.specs.Holding.{AreHeld}
use Rattle.jsp_index.proofs.Holders.{held_ending}
use Rattle.jsp_index.proofs.hinted.HintedRows.extend.Goals as goal

pub invariant_of-self : goal.invariant_of-self
invariant_of-self c = subst (AreHeld c.self.inside.holders) (sym c.set_end.ensures) (held_ending c.self.inside.holders c.args.number c.args.end c.self.inside.rows c.self.invariant)

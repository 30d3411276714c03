use Rattle.std.proofs.Common.{not, eqb, sym, subst}
use Rattle.jsp_model.specs.declared.state.Row.{Row}
use Rattle.jsp_index.specs.Holding.{IsHeld, AreHeld}
use Rattle.jsp_index.proofs.Holders.{all_filtered}
use Rattle.jsp_index.proofs.hinted.HintedRows.clear.Goals as goal

pub invariant_of-self : goal.invariant_of-self
invariant_of-self c = subst (AreHeld c.self.inside.holders) (sym c.clear.ensures) (all_filtered (IsHeld c.self.inside.holders) (λ (r : Row). not (eqb r.space c.args.space)) c.self.inside.rows c.self.invariant)

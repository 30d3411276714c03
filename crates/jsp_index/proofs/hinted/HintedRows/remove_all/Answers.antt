use Rattle.std.proofs.Common.{not, sym, subst}
use Rattle.jsp_model.specs.declared.state.Row.{Row}
use Rattle.jsp_model.specs.Lookup.{contains}
use Rattle.jsp_index.specs.Holding.{IsHeld, AreHeld}
use Rattle.jsp_index.proofs.Holders.{all_filtered}
use Rattle.jsp_index.proofs.hinted.HintedRows.remove_all.Goals as goal

pub invariant_of-self : goal.invariant_of-self
invariant_of-self c = subst (AreHeld c.self.inside.holders) (sym c.remove_all.ensures) (all_filtered (IsHeld c.self.inside.holders) (λ (r : Row). not (contains c.args.numbers.now r.number)) c.self.inside.rows c.self.invariant)

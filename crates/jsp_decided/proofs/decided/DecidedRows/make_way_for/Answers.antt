use Rattle.std.proofs.Common.{◌≡◌, ◌++◌, false, sym, subst}
use Rattle.std.specs.List.{AllByRecursion}
use Rattle.jsp_model.specs.declared.state.Row.{Row}
use Rattle.jsp_decided.specs.Recording.{covers}
use Rattle.jsp_index.specs.Numbered.{AreNumbered}
use Rattle.jsp_decided.proofs.RowsAfter.{numbered_after}
use Rattle.jsp_decided.proofs.decided.DecidedRows.make_way_for.Goals as goal

pub returns-then-not-are_uncovered-clause-numbered : goal.returns-then-not-are_uncovered-clause-numbered
returns-then-not-are_uncovered-clause-numbered c =
    λ up. subst (λ rows. AreNumbered (rows ++ c.args.rows.now)) (sym c.apply_all.ensures.same) (numbered_after c.args.self.now.recorded.items c.args.self.now.stored c.args.rows.now up)

pub returns-else-not-are_uncovered-clause-none : goal.returns-else-not-are_uncovered-clause-none
returns-else-not-are_uncovered-clause-none c = subst (λ ds. AllByRecursion (λ (r : Row). covers ds r.space ≡ false) c.args.rows.now) c.deref.ensures.value c.if-not-are_uncovered.ensures

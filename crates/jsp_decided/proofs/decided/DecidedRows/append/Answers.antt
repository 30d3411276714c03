use Rattle.std.proofs.Common.{◌≡◌, ◌++◌, false, ap, subst, ◌∙◌}
use Rattle.std.specs.List.{AllByRecursion}
use Rattle.std.proofs.lemmas.Result.{on_ok_weaker}
use Rattle.jsp_model.specs.declared.state.Row.{Row}
use Rattle.jsp_decided.specs.Recording.{rows_after, covers}
use Rattle.jsp_decided.proofs.Sparing.{appended_after}
use Rattle.jsp_decided.proofs.decided.DecidedRows.append.Goals as goal

pub returns-clause-ok : goal.returns-clause-ok
returns-clause-ok c =
    let ds = c.make_way_for.new.self.recorded.items in
    let stored = c.make_way_for.new.self.stored in
    let more = c.args.rows.now.items in
    let none : AllByRecursion (λ (r : Row). covers ds r.space ≡ false) more = subst (AllByRecursion (λ (r : Row). covers ds r.space ≡ false)) c.deref.ensures.value c.make_way_for.ensures.none in
    on_ok_weaker c.append.result (λ made. ap (rows_after ds) made ∙ (appended_after ds stored more none ∙ ap (λ w. w ++ more) c.make_way_for.ensures.same)) c.append.ensures.ok

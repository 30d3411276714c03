use Rattle.std.proofs.Common.{◌++◌, ◌<◌, Bool, true, false, List, ◌∙◌, subst}
use Rattle.std.specs.Bool.{OnTrue}
use Rattle.std.specs.List.{AllByRecursion}
use Rattle.jsp_model.specs.declared.state.Row.{Row}
use Rattle.jsp_table.specs.Finding.{AreNumbered as AreRising}
use Rattle.jsp_index.specs.Finding.{number}
use Rattle.jsp_index.specs.Numbered.{AreNumbered}
use Rattle.jsp_index.proofs.hinted.HintedRows.is_above.Goals as goal

on_both : (b : Bool) (rows : List Row) → OnTrue b (AreRising number rows) → OnTrue b (AllByRecursion (λ (r : Row). 0 < r.number) rows) → OnTrue b (AreNumbered rows)
on_both true rows h k = record { positive = k; rising = h }
on_both false rows h k = tt

pub returns : goal.returns
returns c =
    let come = c.args.rows.now in
    let rows = c.keyed.result.now in
    subst (λ (w : List Row). OnTrue c.may_append.result (AreNumbered (w ++ come))) (c.keyed.ensures ∙ c.self.view_is) (on_both c.may_append.result (rows ++ come) c.may_append.ensures.rising c.may_append.ensures.positive)

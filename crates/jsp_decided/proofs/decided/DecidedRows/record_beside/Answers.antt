use Rattle.std.proofs.Common.{◌++◌, map, ap, subst, ◌∙◌}
use Rattle.jsp_decided.specs.declared.recorded.Recorded.TheVariants.{Decided}
use Rattle.jsp_decided.specs.Recording.{rows_after}
use Rattle.jsp_index.specs.Ending.{EndsAll}
use Rattle.jsp_decided.proofs.Ending.{ended_after}
use Rattle.jsp_decided.proofs.decided.DecidedRows.record_beside.Goals as goal

pub returns-clause-ok : goal.returns-clause-ok
returns-clause-ok c =
    let stored = c.args.self.now.stored in
    let ds = c.args.self.now.recorded.items in
    let more = c.in_ok-decisions.decisions.items in
    let ends : EndsAll c.args.x c.args.commits more stored = c.in_ok-decisions.ensures in
    ap (λ ds. rows_after ds stored) (c.in_ok-append.ensures.items ∙ ap (λ w. ds ++ w) (c.in_ok-ended.ensures ∙ ap (map Decided) c.deref.ensures.value)) ∙ ended_after c.args.x c.args.commits ds more stored ends

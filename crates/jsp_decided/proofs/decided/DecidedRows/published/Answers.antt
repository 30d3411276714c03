use Rattle.std.proofs.Common.{◌≡◌, true, ap, sym, ◌∙◌}
use Rattle.std.specs.List.{list_all}
use Rattle.jsp_decided.specs.Recording.{rows_after, is_of_other}
use Rattle.jsp_decided.proofs.Numbered.{published_later}
use Rattle.jsp_decided.proofs.decided.DecidedRows.published.Goals as goal

pub returns-in_ok-rows : goal.returns-in_ok-rows
returns-in_ok-rows c =
    let ds = c.args.self.now.recorded.items in
    let stored = c.args.self.now.stored in
    let others : list_all (is_of_other c.args.x) ds ≡ true = ap (list_all (is_of_other c.args.x)) (sym c.deref.ensures.value) ∙ (sym c.are_others.ensures ∙ c.if-are_others.true) in
    c.apply_each.ensures ∙ (ap (λ ds. rows_after ds c.in_ok-rows.rows.items) c.deref-then-are_others.ensures.value ∙ (ap (rows_after ds) c.in_ok-rows.ensures ∙ published_later c.args.x ds stored others))

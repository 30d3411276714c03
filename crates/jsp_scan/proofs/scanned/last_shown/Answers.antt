use Rattle.std.proofs.Common.{◌≡◌, ◌+◌, ◌∙◌, ℕ, Some, length, take, get_or, ap, sym, arith}
use Rattle.jsp_model.specs.declared.state.Row.{Row}
use Rattle.jsp_sight.specs.Rows.{shows}
use Rattle.jsp_scan.proofs.Paging.{shown, last_number, shown_same, page_early, last_more, count_more}
use Rattle.jsp_scan.proofs.scanned.last_shown.Goals as goal
use Rattle.jsp_scan.proofs.scanned.last_shown.Goals.{then-may_show, else-may_show}

pub returns-then-most-count : goal.returns-then-most-count
returns-then-most-count c =
    let classes = c.args.classes.now in
    let full : length (shown classes c.args.set.now (take c.rows.row-index c.args.rows.now)) ≡ c.args.most = omega (arith, c.rows.invariant.counted, c.rows.invariant.few, c.if-most-count.true) in
    c.rows.invariant.found ∙ ap last_number (page_early classes c.args.set.now c.args.rows.now c.rows.row-index c.args.most full)

pub rows-preserved : goal.rows-preserved
rows-preserved c =
    let classes = c.args.classes.now in
    let set = c.args.set.now in
    let rows = c.args.rows.now in
    let i = c.rows.row-index in
    let row = c.row-item.result in
    let at : shows classes set (get_or rows i row) ≡ c.may_show.result = ap (shows classes set) (sym c.row-item.is) ∙ sym c.may_show.ensures in
    elim c.if-may_show.branch [
      | then-may_show w ↦
          record {
            found = w.last-is ∙ (ap (λ (r : Row). Some r.number) c.row-item.is ∙ last_more classes set rows i row c.rows-test.true (at ∙ w.if-may_show.true));
            counted = w.count-is ∙ (ap (λ (n : ℕ). n + 1) c.rows.invariant.counted ∙ sym (count_more classes set rows i row c.rows-test.true (at ∙ w.if-may_show.true)));
            few = omega (arith, w.count-is, c.if-most-count.false);
          }
      | else-may_show w ↦
          record {
            found = w.last-is ∙ (c.rows.invariant.found ∙ ap last_number (sym (shown_same classes set rows i row c.rows-test.true (at ∙ w.if-may_show.false))));
            counted = w.count-is ∙ (c.rows.invariant.counted ∙ ap length (sym (shown_same classes set rows i row c.rows-test.true (at ∙ w.if-may_show.false))));
            few = omega (arith, w.count-is, c.rows.invariant.few);
          }
    ]

use Rattle.std.proofs.Common.{◌≤◌, ◌<◌, ◌∙◌, ◌++◌, ◌∷◌, [], ap, length, arith}
use Rattle.jsp_model.specs.declared.state.Row.{Row}
use Rattle.jsp_sight.specs.Rows.{shown_among}
use Rattle.jsp_scan.proofs.Paging.{entries_more, few_more, entries_early}
use Rattle.jsp_scan.proofs.scanned.entries_shown.Goals as goal

pub returns-then-most-as_slice : goal.returns-then-most-as_slice
returns-then-most-as_slice c =
    let enough : c.args.most ≤ length c.rows.entries = rw c.as_slice.ensures at c.if-most-as_slice.true in
    entries_early c.args.classes.now c.args.set.now c.args.rows.now c.rows.row-index c.args.most c.rows.entries enough c.rows.invariant.few c.rows.invariant.found

pub rows-preserved : goal.rows-preserved
rows-preserved c =
    let classes = c.args.classes.now in
    let set = c.args.set.now in
    let fewer : length c.as_slice.result.now < c.args.most = omega (arith, c.if-most-as_slice.false) in
    let few : length c.rows.entries < c.args.most = rw c.as_slice.ensures at fewer in
    record {
      found = entries_more classes set c.args.rows.now c.rows.row-index c.row-item.result c.rows.entries _ c.rows-test.true c.rows.invariant.found
          (c.in_ok-add_if_shown.ensures ∙ ap (λ (r : Row). c.rows.entries ++ shown_among classes set (r ∷ [])) c.row-item.is);
      few = few_more classes set c.row-item.result c.rows.entries _ c.args.most few c.in_ok-add_if_shown.ensures;
    }

use Rattle.std.proofs.Common.{◌≤◌, length}
use Rattle.jsp_scan.proofs.Choosing.{chosen_early}
use Rattle.jsp_scan.proofs.scanned.choose.Goals as goal

pub returns-then-most-as_slice : goal.returns-then-most-as_slice
returns-then-most-as_slice c =
    let enough : c.args.blocked.now.most ≤ length c.rows.numbers = rw c.as_slice.ensures at c.if-most-as_slice.true in
    chosen_early c.args.classes.now c.args.blocked.now c.args.rows.now c.rows.row-index c.args.blocked.now.most c.rows.numbers enough c.rows.invariant.few c.rows.invariant.found

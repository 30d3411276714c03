use Rattle.std.proofs.Common.{is_some, ap, sym, ◌∙◌}
use Rattle.jsp_decided.specs.Decided.{row_after}
use Rattle.jsp_decided.specs.Left.{marks_of}
use Rattle.jsp_decided.proofs.Flat.{left_unmarked, some_mapped}
use Rattle.jsp_decided.proofs.finding.left_of.Goals as goal

pub returns-in-Some : goal.returns-in-Some
returns-in-Some c =
    let ds = c.args.recorded.now in
    let row = c.args.row.now in
    left_unmarked ds row (sym (some_mapped marks_of (row_after ds row)) ∙ ap is_some (sym c.in-Some.ensures))

use Rattle.std.proofs.Common.{◌+◌, take, ap, sym, ◌∙◌}
use Rattle.std.specs.Prelude.{option_map}
use Rattle.jsp_decided.specs.Decided.{row_after}
use Rattle.jsp_decided.specs.Left.{marks_of}
use Rattle.jsp_decided.proofs.Marks.{marks_more, marks_gone, gone_after}
use Rattle.jsp_decided.proofs.after.left_after.Goals as goal

pub returns-in_default : goal.returns-in_default
returns-in_default c =
    let ds = c.args.recorded.now in
    let row = c.args.row.now in
    let i = c.recorded.one-index in
    let gone = marks_gone (row_after (take (i + 1) ds) row) (marks_more ds i _ row c.recorded.left c.recorded-test.true c.recorded.invariant ∙ sym c.in_default.ensures) in
    sym (ap (option_map marks_of) (gone_after ds (i + 1) row gone))

pub recorded-preserved : goal.recorded-preserved
recorded-preserved c =
    let ds = c.args.recorded.now in
    marks_more ds c.recorded.one-index _ c.args.row.now c.recorded.left c.recorded-test.true c.recorded.invariant ∙ sym c.in-Some.ensures

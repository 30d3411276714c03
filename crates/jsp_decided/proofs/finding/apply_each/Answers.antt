use Rattle.std.proofs.Common.{◌≡◌, take, ap, ◌∙◌, arith}
use Rattle.std.proofs.lemmas.List.{take_all}
use Rattle.jsp_decided.specs.Recording.{rows_after}
use Rattle.jsp_decided.proofs.RowsAfter.{one_more}
use Rattle.jsp_decided.proofs.finding.apply_each.Goals as goal

pub recorded-preserved : goal.recorded-preserved
recorded-preserved c = c.apply_to_list.ensures ∙ one_more c.args.recorded.now c.recorded.one-index _ c.args.rows.now.items c.recorded.rows.items c.recorded-test.true c.recorded.invariant

pub returns : goal.returns
returns c =
    let whole : take c.recorded.one-index c.args.recorded.now ≡ c.args.recorded.now = take_all c.recorded.one-index c.args.recorded.now (omega (arith, c.recorded-test.false)) in
    c.recorded.invariant ∙ ap (λ ds. rows_after ds c.args.rows.now.items) whole

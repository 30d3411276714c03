use Rattle.std.proofs.Common.{◌<◌, false, arith}
use Rattle.jsp_index.proofs.Heads.{none_open, first_open, found_positive, everywhere_none}
use Rattle.jsp_index.proofs.passing.further.Goals as goal

pub overflow_sub-result : goal.overflow_sub-result
overflow_sub-result g c =
    let least = c.in-Some.ensures.least (λ r. false) (everywhere_none c.args.numbers.now c.args.rows.now) in
    let pos : 0 < c.in-Some.row.now.number = found_positive c.in-Some.row.now.number c.args.rows.now c.in-Some.row.now least.one.1 c.in-Some.ensures.positive in
    omega arith

pub returns-in-None : goal.returns-in-None
returns-in-None g c kind named h = none_open kind (g.P.Test.is_passed c.args.had.now) c.args.start c.args.rows.now _ h (c.in-None.ensures.least kind named)

pub returns-in-Some : goal.returns-in-Some
returns-in-Some g c kind named h =
    let least = c.in-Some.ensures.least kind named in
    first_open kind (g.P.Test.is_passed c.args.had.now) c.args.start c.args.rows.now c.in-Some.row.now (found_positive c.in-Some.row.now.number c.args.rows.now c.in-Some.row.now least.one.1 c.in-Some.ensures.positive) h least

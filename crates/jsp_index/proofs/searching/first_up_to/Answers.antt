use Rattle.jsp_index.proofs.OwnRows.{none_up_to, above_up_to, some_up_to}
use Rattle.jsp_index.proofs.searching.first_up_to.Goals as goal

pub returns-in_default : goal.returns-in_default
returns-in_default g c kind named = none_up_to (g.P.Test.is_passed c.args.test.now) kind c.args.after c.args.last c.args.rows.now (c.in_default.ensures.least kind named)

pub returns-then-last-row : goal.returns-then-last-row
returns-then-last-row g c kind named = above_up_to (g.P.Test.is_passed c.args.test.now) kind c.args.after c.args.last c.args.rows.now c.in-Some.row.now c.if-last-row.true c.requires (c.in-Some.ensures.least kind named)

pub returns : goal.returns
returns g c kind named = some_up_to (g.P.Test.is_passed c.args.test.now) kind c.args.after c.args.last c.args.rows.now c.in-Some.row.now c.if-last-row.false (c.in-Some.ensures.least kind named)

use Rattle.std.proofs.Common.{◌≡◌, ◌++◌, length, arith, rules}
use Rattle.std.proofs.lemmas.Grind.{common_steps}
use Rattle.jsp_index.proofs.Shaped.{one_shaped, none_shaped, all_shaped}
use Rattle.jsp_index.proofs.shapes.add_rows.Goals as goal

pub rows-init : goal.rows-init
rows-init c before h = none_shaped c.args.seed c.args.shapes.now.items before h

pub rows-preserved : goal.rows-preserved
rows-preserved c before h = one_shaped c.args.seed c.rows.shapes.items c.add_row.new.shapes.items before c.args.rows.now c.rows.row-index c.row-item.result c.rows-test.true c.row-item.is c.add_row.ensures.keeps c.add_row.ensures.named (c.rows.invariant before h)

pub returns : goal.returns
returns c before h = all_shaped c.args.seed c.rows.shapes.items before c.args.rows.now c.rows.row-index (first_of (omega (arith, c.rows-test.false), grind (arith, common_steps))) (c.rows.invariant before h)

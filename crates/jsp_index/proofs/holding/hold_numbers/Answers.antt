use Rattle.jsp_index.proofs.Holders.{listed_more}
use Rattle.jsp_index.proofs.holding.hold_numbers.Goals as goal

pub numbers-preserved : goal.numbers-preserved
numbers-preserved c = record {
  held = listed_more c.numbers.holders c.hold_number.new.holders c.args.x c.args.numbers.now c.numbers.number-index c.args.rows.now c.numbers-test.true c.hold_number.ensures.keeps c.numbers.invariant.held c.in_ok-hold_number.ensures.ok;
  keeps = λ x space n h. c.hold_number.ensures.keeps x space n (c.numbers.invariant.keeps x space n h);
}

use Rattle.std.proofs.Common.{◌≡◌, ◌<◌, true, length, arith, rules}
use Rattle.std.proofs.lemmas.Grind.{common_steps}
use Rattle.jsp_index.specs.Holding.{lists, Keeps}
use Rattle.jsp_index.proofs.Holders.{one_reader_more}
use Rattle.jsp_index.proofs.holding.hold.Goals as goal

pub readers-preserved : goal.readers-preserved
readers-preserved c =
    let row = c.args.row.now in
    let keeps : Keeps c.readers.holders c.list.new.holders = c.list.ensures.keeps in
    let within : c.readers.reader-index < length row.readers = first_of (omega (arith, c.readers-test.true), grind (arith, common_steps)) in
    record {
      keeps = λ x space n h. keeps x space n (c.readers.invariant.keeps x space n h);
      by_writer = λ x e. keeps x row.space row.number (c.readers.invariant.by_writer x e);
      by_taker = λ x e. keeps x row.space row.number (c.readers.invariant.by_taker x e);
      by_reader = one_reader_more (λ x. lists c.readers.holders x row.space row.number ≡ true) (λ x. lists c.list.new.holders x row.space row.number ≡ true) row.readers c.readers.reader-index within (λ x h. keeps x row.space row.number h) c.readers.invariant.by_reader (first_of (search rules, grind (arith, common_steps)));
    }

use Rattle.std.proofs.Common.{arith}
use Rattle.jsp_table.specs.Places.{living}
use Rattle.jsp_table.proofs.Standing.{first_below, over_from}
use Rattle.jsp_table.proofs.table.make_way_for.Goals as goal

pub make_way-requires-clause-later : goal.make_way-requires-clause-later
make_way-requires-clause-later g c =
    first_below g.N.Numbering.number_of (living c.args.slots.now.items) c.args.things.now c.first-item.result c.number.result c.in-len1-up.len_at_least c.first-item.is c.number.ensures c.requires.rising

pub returns-in-len1-up-clause-over : goal.returns-in-len1-up-clause-over
returns-in-len1-up-clause-over g c =
    over_from g.N.Numbering.number_of (living c.args.slots.now.items) c.args.things.now c.first-item.result c.number.result c.make_way.new.numbers.items c.in-len1-up.len_at_least c.first-item.is c.number.ensures c.requires.rising (λ k lt. c.make_way.ensures.below k (omega (arith, lt, c.make_way.new.numbers.ok)))

use Rattle.std.proofs.Common.{◌≡◌, ◌-◌, length, arith, rules}
use Rattle.std.specs.Prelude.{slice_index}
use Rattle.std.proofs.lemmas.Grind.{common_steps}
use Rattle.jsp_table.specs.Places.{living}
use Rattle.jsp_table.proofs.Standing.{all_below, last_below, by_same}
use Rattle.jsp_table.proofs.table.make_way.Goals as goal

pub returns-then-index-number-clause-below : goal.returns-then-index-number-clause-below
returns-then-index-number-clause-below g c k lt =
    let numbers = c.args.numbers.now.items in
    let last : c.index.result.now ≡ slice_index numbers (length numbers - 1) = first_of (grind (arith, common_steps), search rules) in
    last_below g.N.Numbering.number_of numbers c.args.slots.now.items c.args.number c.index.result.now c.requires.kept last c.if-index-number.true k (omega (arith, lt, c.args.numbers.now.ok))

pub returns-clause-below : goal.returns-clause-below
returns-clause-below g c k lt =
    let num = g.N.Numbering.number_of in
    all_below num c.compact.new.numbers.items (living c.compact.new.slots.items) c.args.number c.compact.ensures.tight
    (by_same (λ x. num x) c.args.number (living c.args.slots.now.items) (living c.compact.new.slots.items) c.compact.ensures.things c.requires.later) k (omega (arith, lt, c.compact.new.numbers.ok))

use Rattle.std.proofs.Common.{◌≡◌, ◌-◌, ◌<◌, length, subst, arith, rules}
use Rattle.std.specs.Prelude.{slice_index}
use Rattle.std.specs.List.{AllByRecursion}
use Rattle.std.proofs.lemmas.Grind.{common_steps}
use Rattle.jsp_table.proofs.Standing.{last_below, things_below}
use Rattle.jsp_table.proofs.table.Table.is_above.Goals as goal

pub returns : goal.returns
returns g c =
    let num = g.N.Numbering.number_of in
    let numbers = c.self.inside.numbers.items in
    let places = c.self.inside.slots.items in
    let last : c.index.result.now ≡ slice_index numbers (length numbers - 1) = first_of (grind (arith, common_steps), search rules) in
    subst (AllByRecursion (λ x. num x < c.args.number)) c.self.view_is
    (things_below num numbers places c.args.number c.self.invariant (last_below num numbers places c.args.number c.index.result.now c.self.invariant last c.if-index-number.false))

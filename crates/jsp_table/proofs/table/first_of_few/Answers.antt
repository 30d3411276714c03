use Rattle.std.proofs.Common.{◌≡◌, ◌<◌, Some, sym, ◌∙◌, arith, rules}
use Rattle.std.proofs.lemmas.Grind.{common_steps}
use Rattle.jsp_table.specs.Finding.{numbered}
use Rattle.jsp_table.proofs.Next.{next_is_above}
use Rattle.jsp_table.proofs.Finding.{first_hit, passed_over, none_left, Fails}
use Rattle.jsp_table.proofs.table.first_of_few.Goals as goal

pub numbers-smaller : goal.numbers-smaller
numbers-smaller g c =
    let above : c.numbers.last < c.in-Some.number = next_is_above c.args.numbers.now c.numbers.last c.in-Some.number (sym c.next_of_few_from.ensures ∙ c.in-Some.is) in
    omega arith

pub returns-then-passes : goal.returns-then-passes
returns-then-passes g c =
    let num = g.N.Numbering.number_of in
    let test = g.P.Test.is_passed c.args.test.now in
    let things = c.args.table.now in
    let there : numbered num c.in-Some.number things ≡ Some c.in-Some-get.thing.now = first_of (search rules, grind (arith, common_steps)) in
    let first = first_hit num test c.args.numbers.now c.requires c.numbers.last c.in-Some.number (sym c.next_of_few_from.ensures ∙ c.in-Some.is) things c.in-Some-get.thing.now c.get.ensures.rising there (sym c.passes.ensures ∙ c.if-passes.true) in
    sym first ∙ c.numbers.invariant

pub numbers-preserved : goal.numbers-preserved
numbers-preserved g c =
    let num = g.N.Numbering.number_of in
    let test = g.P.Test.is_passed c.args.test.now in
    let things = c.args.table.now in
    let fails : Fails num test c.in-Some.number things = first_of (search rules, grind (arith, common_steps)) in
    passed_over num test c.args.numbers.now c.requires c.numbers.last c.in-Some.number (sym c.next_of_few_from.ensures ∙ c.in-Some.is) things c.get.ensures.rising fails ∙ c.numbers.invariant

pub numbers-smaller-else-passes : goal.numbers-smaller-else-passes
numbers-smaller-else-passes g c =
    let above : c.numbers.last < c.in-Some.number = next_is_above c.args.numbers.now c.numbers.last c.in-Some.number (sym c.next_of_few_from.ensures ∙ c.in-Some.is) in
    omega arith

pub numbers-preserved-else-passes : goal.numbers-preserved-else-passes
numbers-preserved-else-passes g c =
    let num = g.N.Numbering.number_of in
    let test = g.P.Test.is_passed c.args.test.now in
    let things = c.args.table.now in
    let fails : Fails num test c.in-Some.number things = first_of (search rules, grind (arith, common_steps)) in
    passed_over num test c.args.numbers.now c.requires c.numbers.last c.in-Some.number (sym c.next_of_few_from.ensures ∙ c.in-Some.is) things c.get.ensures.rising fails ∙ c.numbers.invariant

pub returns : goal.returns
returns g c =
    let num = g.N.Numbering.number_of in
    let test = g.P.Test.is_passed c.args.test.now in
    sym (none_left num test c.args.numbers.now c.numbers.last c.args.table.now (sym c.next_of_few_from.ensures ∙ c.in_default.is)) ∙ c.numbers.invariant

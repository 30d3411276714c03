use Rattle.std.proofs.Common.{◌≡◌, Some, refl, sym, ◌∙◌, arith, rules}
use Rattle.std.proofs.lemmas.Grind.{common_steps}
use Rattle.jsp_table.specs.Finding.{numbered}
use Rattle.jsp_table.proofs.Finding.{first_hit, passed_over, none_left, Fails}
use Rattle.jsp_table.proofs.Above.{behind_first, first_over, none_over}
use Rattle.jsp_table.proofs.table.first_of_many.Goals as goal

pub numbers-init : goal.numbers-init
numbers-init g c = record { last = c.args.after; left = c.into_iter-number-iterator.ensures.into_iter_gives ∙ c.range-number-items.ensures.between tt; same = refl }

pub returns-then-passes : goal.returns-then-passes
returns-then-passes g c =
    let num = g.N.Numbering.number_of in
    let test = g.P.Test.is_passed c.args.test.now in
    let things = c.args.table.now in
    let ns = c.args.numbers.now.keys in
    let last = c.numbers.invariant.last in
    let n = c.in-Some.number.now in
    let there : numbered num n things ≡ Some c.in-Some-get.thing.now = first_of (search rules, grind (arith, common_steps)) in
    let next = first_over ns last n c.next.new.self (sym c.numbers.invariant.left ∙ c.in-Some.ensures.steps) in
    sym (first_hit num test ns c.requires last n next things c.in-Some-get.thing.now c.get.ensures.rising there (sym c.passes.ensures ∙ c.if-passes.true)) ∙ c.numbers.invariant.same

pub numbers-preserved-else-passes : goal.numbers-preserved-else-passes
numbers-preserved-else-passes g c =
    let num = g.N.Numbering.number_of in
    let test = g.P.Test.is_passed c.args.test.now in
    let things = c.args.table.now in
    let ns = c.args.numbers.now.keys in
    let last = c.numbers.invariant.last in
    let n = c.in-Some.number.now in
    let fails : Fails num test n things = first_of (search rules, grind (arith, common_steps)) in
    let split = sym c.numbers.invariant.left ∙ c.in-Some.ensures.steps in
    let next = first_over ns last n c.next.new.self split in
    record {
      last = n;
      left = behind_first ns last n c.next.new.self c.requires split;
      same = passed_over num test ns c.requires last n next things c.get.ensures.rising fails ∙ c.numbers.invariant.same;
    }

pub numbers-preserved : goal.numbers-preserved
numbers-preserved g c =
    let num = g.N.Numbering.number_of in
    let test = g.P.Test.is_passed c.args.test.now in
    let things = c.args.table.now in
    let ns = c.args.numbers.now.keys in
    let last = c.numbers.invariant.last in
    let n = c.in-Some.number.now in
    let fails : Fails num test n things = first_of (search rules, grind (arith, common_steps)) in
    let split = sym c.numbers.invariant.left ∙ c.in-Some.ensures.steps in
    let next = first_over ns last n c.next.new.self split in
    record {
      last = n;
      left = behind_first ns last n c.next.new.self c.requires split;
      same = passed_over num test ns c.requires last n next things c.get.ensures.rising fails ∙ c.numbers.invariant.same;
    }

pub returns : goal.returns
returns g c =
    let num = g.N.Numbering.number_of in
    let test = g.P.Test.is_passed c.args.test.now in
    let ns = c.args.numbers.now.keys in
    let last = c.numbers.invariant.last in
    sym (none_left num test ns last c.args.table.now (none_over ns last (sym c.numbers.invariant.left ∙ c.in-None.ensures.steps.0))) ∙ c.numbers.invariant.same

use Rattle.std.proofs.Common.{◌≡◌, ◌<◌, Some, true, false, option_copied, ap, sym, ◌∙◌, arith}
use Rattle.std.specs.Prelude.{find, nat_lt}
use Rattle.std.specs.Option.{option_map_or}
use Rattle.jsp_table.proofs.Finding.{Fails}
use Rattle.jsp_table.proofs.Next.{next_is_above}
use Rattle.jsp_index.specs.Finding.{number}
use Rattle.jsp_index.proofs.OwnRows.{over_at_first, own_none, own_next, over_more}
use Rattle.jsp_index.proofs.own.first_of_own.Goals as goal

pub numbers-init : goal.numbers-init
numbers-init g c = record { up = omega arith; over = over_at_first (g.P.Test.is_passed c.args.test.now) c.args.own.now c.args.after c.args.rows.now }

pub returns-then-passes : goal.returns-then-passes
returns-then-passes g c =
    let passed = g.P.Test.is_passed c.args.test.now in
    let is : find (nat_lt c.numbers.last) c.args.own.now ≡ Some c.in-Some.number = sym c.next_above.ensures.next ∙ c.in-Some.is in
    let passes : option_map_or passed (option_copied c.get-found.result) false ≡ true = sym c.passes.ensures ∙ c.if-passes.true in
    own_next passed c.args.own.now c.args.after c.args.rows.now c.numbers.last c.in-Some.number (option_copied c.get-found.result) c.next_above.ensures.increasing is c.numbers.invariant.up (sym c.get-found.ensures) passes c.numbers.invariant.over

pub numbers-preserved : goal.numbers-preserved
numbers-preserved g c =
    let passed = g.P.Test.is_passed c.args.test.now in
    let is : find (nat_lt c.numbers.last) c.args.own.now ≡ Some c.in-Some.number = sym c.next_above.ensures.next ∙ c.in-Some.is in
    let above : c.numbers.last < c.in-Some.number = next_is_above c.args.own.now c.numbers.last c.in-Some.number is in
    let fails : Fails number passed c.in-Some.number c.args.rows.now = ap (λ o. option_map_or passed o false) (sym c.get-found.ensures) ∙ (sym c.passes.ensures ∙ c.if-passes.false) in
    record {
      up = omega (arith, above, c.passed_to-last.ensures.up, c.numbers.invariant.up);
      over = over_more passed c.args.own.now c.args.after c.args.rows.now c.args.space c.numbers.last c.in-Some.number c.passed_to-last.result c.next_above.ensures.increasing c.places.ensures.rising is fails c.requires c.passed_to-last.ensures.none c.numbers.invariant.over;
    }

pub numbers-smaller : goal.numbers-smaller
numbers-smaller g c =
    let above : c.numbers.last < c.in-Some.number = next_is_above c.args.own.now c.numbers.last c.in-Some.number (sym c.next_above.ensures.next ∙ c.in-Some.is) in
    omega (arith, above, c.passed_to-last.ensures.up)

pub returns : goal.returns
returns g c = own_none (g.P.Test.is_passed c.args.test.now) c.args.own.now c.args.after c.args.rows.now c.numbers.last (sym c.next_above.ensures.next ∙ c.in_default.is) c.numbers.invariant.over

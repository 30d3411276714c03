use Rattle.std.proofs.Common.{◌≡◌, ◌-◌, ◌<◌, Some, None, true, false, option_copied, ap, sym, ◌∙◌, arith}
use Rattle.std.specs.Prelude.{find, nat_lt}
use Rattle.std.specs.Option.{option_map_or}
use Rattle.jsp_table.proofs.Finding.{Fails}
use Rattle.jsp_table.proofs.Next.{next_is_above}
use Rattle.jsp_index.specs.Finding.{number}
use Rattle.jsp_index.proofs.InBoth.{beyond_at_first, ends_own, ends_above, ends_list, ends_here, beyond_here, beyond_next}
use Rattle.jsp_index.proofs.both.first_in_both.Goals as goal

pub numbers-init : goal.numbers-init
numbers-init g c = record { up = omega arith; beyond = beyond_at_first (g.P.Test.is_passed c.args.test.now) c.args.numbers.now c.args.own.now c.args.after c.args.rows.now }

pub returns-then-not-is_within : goal.returns-then-not-is_within
returns-then-not-is_within g c kind named =
    let is : find (nat_lt c.numbers.before) c.args.own.now ≡ Some c.in-Some.number = sym c.next_above.ensures.next ∙ c.in-Some.is in
    ends_above (g.P.Test.is_passed c.args.test.now) c.args.numbers.now c.args.own.now c.args.after c.args.rows.now c.requires.among c.next_above.ensures.increasing c.numbers.before c.in-Some.number c.args.last is
    (sym c.is_within.ensures ∙ c.if-not-is_within.true) c.requires.within c.numbers.invariant.beyond kind named

pub overflow_sub-number : goal.overflow_sub-number
overflow_sub-number g c =
    let above : c.numbers.before < c.in-Some.number = next_is_above c.args.own.now c.numbers.before c.in-Some.number (sym c.next_above.ensures.next ∙ c.in-Some.is) in
    omega (arith, above)

pub returns-in_default-next_above : goal.returns-in_default-next_above
returns-in_default-next_above g c kind named =
    let is : find (nat_lt c.numbers.before) c.args.own.now ≡ Some c.in-Some.number = sym c.next_above.ensures.next ∙ c.in-Some.is in
    let none : find (nat_lt (c.in-Some.number - 1)) c.args.numbers.now ≡ None = sym c.next_above-in-Some.ensures.next ∙ c.in_default-next_above.is in
    ends_list (g.P.Test.is_passed c.args.test.now) c.args.numbers.now c.args.own.now c.args.after c.args.rows.now c.requires.among c.next_above.ensures.increasing c.numbers.before c.in-Some.number is none c.numbers.invariant.beyond kind named

pub returns-then-passes : goal.returns-then-passes
returns-then-passes g c kind named =
    let passed = g.P.Test.is_passed c.args.test.now in
    let is : find (nat_lt c.numbers.before) c.args.own.now ≡ Some c.in-Some.number = sym c.next_above.ensures.next ∙ c.in-Some.is in
    let passes : option_map_or passed (option_copied c.get-found.result) false ≡ true = sym c.passes.ensures ∙ c.if-passes.true in
    ends_here passed c.args.numbers.now c.args.own.now c.args.after c.args.rows.now c.requires.among c.next_above.ensures.increasing c.numbers.before c.in-Some.number (option_copied c.get-found.result) is c.numbers.invariant.up (sym c.get-found.ensures) passes
    c.numbers.invariant.beyond kind named

pub numbers-smaller-then-next-number : goal.numbers-smaller-then-next-number
numbers-smaller-then-next-number g c =
    let above : c.numbers.before < c.in-Some.number = next_is_above c.args.own.now c.numbers.before c.in-Some.number (sym c.next_above.ensures.next ∙ c.in-Some.is) in
    omega (arith, above)

pub numbers-preserved-then-next-number : goal.numbers-preserved-then-next-number
numbers-preserved-then-next-number g c =
    let passed = g.P.Test.is_passed c.args.test.now in
    let is : find (nat_lt c.numbers.before) c.args.own.now ≡ Some c.in-Some.number = sym c.next_above.ensures.next ∙ c.in-Some.is in
    let above : c.numbers.before < c.in-Some.number = next_is_above c.args.own.now c.numbers.before c.in-Some.number is in
    let fails : Fails number passed c.in-Some.number c.args.rows.now = ap (λ o. option_map_or passed o false) (sym c.get-found.ensures) ∙ (sym c.passes.ensures ∙ c.if-passes.false) in
    record {
      up = omega (arith, above, c.numbers.invariant.up);
      beyond = beyond_here passed c.args.numbers.now c.args.own.now c.args.after c.args.rows.now c.requires.among c.next_above.ensures.increasing c.numbers.before c.in-Some.number c.places.ensures.rising is fails c.numbers.invariant.beyond;
    }

pub overflow_sub-before : goal.overflow_sub-before
overflow_sub-before g c =
    let above : c.in-Some.number - 1 < c.in-Some-next_above.next = next_is_above c.args.numbers.now (c.in-Some.number - 1) c.in-Some-next_above.next (sym c.next_above-in-Some.ensures.next ∙ c.in-Some-next_above.is) in
    omega (arith, above)

pub numbers-smaller : goal.numbers-smaller
numbers-smaller g c =
    let above : c.numbers.before < c.in-Some.number = next_is_above c.args.own.now c.numbers.before c.in-Some.number (sym c.next_above.ensures.next ∙ c.in-Some.is) in
    let beyond : c.in-Some.number - 1 < c.in-Some-next_above.next = next_is_above c.args.numbers.now (c.in-Some.number - 1) c.in-Some-next_above.next (sym c.next_above-in-Some.ensures.next ∙ c.in-Some-next_above.is) in
    omega (arith, above, beyond, c.if-next-number.false)

pub numbers-preserved : goal.numbers-preserved
numbers-preserved g c =
    let passed = g.P.Test.is_passed c.args.test.now in
    let is : find (nat_lt c.numbers.before) c.args.own.now ≡ Some c.in-Some.number = sym c.next_above.ensures.next ∙ c.in-Some.is in
    let more : find (nat_lt (c.in-Some.number - 1)) c.args.numbers.now ≡ Some c.in-Some-next_above.next = sym c.next_above-in-Some.ensures.next ∙ c.in-Some-next_above.is in
    let above : c.numbers.before < c.in-Some.number = next_is_above c.args.own.now c.numbers.before c.in-Some.number is in
    let beyond : c.in-Some.number - 1 < c.in-Some-next_above.next = next_is_above c.args.numbers.now (c.in-Some.number - 1) c.in-Some-next_above.next more in
    record {
      up = omega (arith, above, beyond, c.numbers.invariant.up);
      beyond = beyond_next passed c.args.numbers.now c.args.own.now c.args.after c.args.rows.now c.requires.among c.next_above.ensures.increasing c.numbers.before c.in-Some.number c.in-Some-next_above.next c.next_above-in-Some.ensures.increasing is more
          c.numbers.invariant.beyond;
    }

pub returns : goal.returns
returns g c kind named = ends_own (g.P.Test.is_passed c.args.test.now) c.args.numbers.now c.args.own.now c.args.after c.args.rows.now c.requires.among c.next_above.ensures.increasing c.numbers.before (sym c.next_above.ensures.next ∙ c.in_default.is) c.numbers.invariant.beyond kind named

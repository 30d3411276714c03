use Rattle.std.proofs.Common.{◌≡◌, ℕ, ◌+◌, length, ap, sym, subst, arith}
use Rattle.std.specs.Prelude.{filter}
use Rattle.jsp_keyed.specs.Finding.{is_next}
use Rattle.jsp_keyed.proofs.Walking.{from_start, one_passes, none_passes, found_is_above, counted_more, counted_all}
use Rattle.jsp_keyed.proofs.keyed.Keyed.count.Goals as goal

pub things-init : goal.things-init
things-init g c =
    let all = ap length (from_start g.K.Numbering.number_of (g.P.Test.is_passed c.args.test.now) c.args.self.now c.places.ensures.positive) in
    record { sum = omega (arith, all); bound = omega arith }

pub overflow_add-count : goal.overflow_add-count
overflow_add-count g c =
    let above = found_is_above g.K.Numbering.number_of (g.P.Test.is_passed c.args.test.now) c.things.last c.args.self.now c.in-Some.thing.now (sym c.in-Some.ensures.found) in
    omega (arith, above, c.number-last.ensures, c.number-last.type_inv, c.things.invariant.bound)

pub things-smaller : goal.things-smaller
things-smaller g c =
    let above = found_is_above g.K.Numbering.number_of (g.P.Test.is_passed c.args.test.now) c.things.last c.args.self.now c.in-Some.thing.now (sym c.in-Some.ensures.found) in
    omega (arith, above, c.number-last.ensures, c.number-last.type_inv)

pub things-preserved : goal.things-preserved
things-preserved g c =
    let num = g.K.Numbering.number_of in
    let passed = g.P.Test.is_passed c.args.test.now in
    let things = c.args.self.now in
    let x = c.in-Some.thing.now in
    let above = found_is_above num passed c.things.last things x (sym c.in-Some.ensures.found) in
    let next = one_passes num passed c.things.last things x c.in-Some.ensures.rising (sym c.in-Some.ensures.found) in
    let more = counted_more num c.things.count (length (filter passed things)) x (filter (is_next num passed (num x)) things) (filter (is_next num passed c.things.last) things) next c.things.invariant.sum in
    record {
      sum = subst (λ (n : ℕ). c.things.count + 1 + length (filter (is_next num passed n) things) ≡ length (filter passed things)) (sym c.number-last.ensures) more;
      bound = omega (arith, above, c.number-last.ensures, c.things.invariant.bound);
    }

pub returns : goal.returns
returns g c =
    let num = g.K.Numbering.number_of in
    let passed = g.P.Test.is_passed c.args.test.now in
    let things = c.args.self.now in
    counted_all num c.things.count (length (filter passed things)) (filter (is_next num passed c.things.last) things) (none_passes (is_next num passed c.things.last) things (sym c.in_default.ensures.found)) c.things.invariant.sum

use Rattle.std.proofs.Common.{◌≡◌, ℕ, true, ◌&&◌, sym, subst, arith}
use Rattle.std.specs.List.{AllByRecursion}
use Rattle.jsp_table.specs.Numbers.{contains}
use Rattle.jsp_keyed.proofs.Walking.{found_is_above}
use Rattle.jsp_keyed.proofs.Gathering.{IsKnown, none_known, one_known, all_known}
use Rattle.jsp_keyed.proofs.passing.gather_named.Goals as goal

pub things-init : goal.things-init
things-init g c =
    let num = g.K.Numbering.number_of in
    let named = λ (x : g.row.T.Denot). contains c.args.numbers.now (num x) && g.P.Test.is_passed c.args.test.now x in
    record {
      keeps = λ m h. h;
      known = none_known num named (λ (x : g.row.T.Denot). contains c.args.found.now (num x) ≡ true) c.args.table.now c.requires;
    }

pub things-smaller : goal.things-smaller
things-smaller g c =
    let num = g.K.Numbering.number_of in
    let named = λ (x : g.row.T.Denot). contains c.args.numbers.now (num x) && g.P.Test.is_passed c.args.test.now x in
    let above = found_is_above num named c.things.last c.args.table.now c.in-Some.thing.now (sym c.in-Some.ensures.found) in
    omega (arith, above, c.number-last.ensures, c.number-last.type_inv)

pub things-preserved : goal.things-preserved
things-preserved g c =
    let num = g.K.Numbering.number_of in
    let named = λ (x : g.row.T.Denot). contains c.args.numbers.now (num x) && g.P.Test.is_passed c.args.test.now x in
    let x = c.in-Some.thing.now in
    let old = c.things.found in
    let new = c.add.new.self in
    let P = λ (y : g.row.T.Denot). contains old (num y) ≡ true in
    let Q = λ (y : g.row.T.Denot). contains new (num y) ≡ true in
    let here : Q x = subst (λ (n : ℕ). contains new n ≡ true) c.number-last.ensures c.in_ok-add.ensures.ok in
    let known = one_known num named P Q c.things.last x c.args.table.now c.in-Some.ensures.rising c.in-Some.ensures.found (λ y h. c.add.ensures.keeps (num y) h) here c.things.invariant.known in
    record {
      keeps = λ m h. c.add.ensures.keeps m (c.things.invariant.keeps m h);
      known = subst (λ (n : ℕ). AllByRecursion (IsKnown num named Q n) c.args.table.now) (sym c.number-last.ensures) known;
    }

pub returns-clause-ok : goal.returns-clause-ok
returns-clause-ok g c =
    let num = g.K.Numbering.number_of in
    let named = λ (x : g.row.T.Denot). contains c.args.numbers.now (num x) && g.P.Test.is_passed c.args.test.now x in
    all_known num named (λ (x : g.row.T.Denot). contains c.things.found (num x) ≡ true) c.things.last c.args.table.now c.in_default.ensures.found c.things.invariant.known

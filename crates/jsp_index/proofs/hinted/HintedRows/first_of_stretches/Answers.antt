use Rattle.std.proofs.Common.{◌≡◌, true, List, Some, sym, ◌∙◌, eqb, subst, arith, ◌<◌}
use Rattle.std.specs.List.{AllByRecursion}
use Rattle.jsp_model.specs.declared.state.Row.{Row}
use Rattle.jsp_index.proofs.Covering.{and_both}
use Rattle.jsp_index.proofs.ByStretches.{found_some, found_none, none_between, all_here}
use Rattle.jsp_index.proofs.hinted.HintedRows.first_of_stretches.Goals as goal

pub returns-then-is_some-clause-found : goal.returns-then-is_some-clause-found
returns-then-is_some-clause-found g c =
    found_some (g.P.Test.is_passed c.args.test.now) c.args.after c.stretches.from (Some c.in-Some.last) c.args.self.now c.first_of_stretch-found.result c.first_of_stretch-found.ensures.numbered.rising
    c.stretches.invariant.up c.stretches.invariant.beyond c.first_of_stretch-found.ensures.found (sym c.is_some.ensures ∙ c.if-is_some.true)

pub stretches-preserved : goal.stretches-preserved
stretches-preserved g c =
    let passed = g.P.Test.is_passed c.args.test.now in
    let rows = c.args.self.now in
    let space = c.args.sought.now.space in
    let last = c.in-Some.last in
    let to = c.passed_to-from.result in
    let over = found_none passed c.args.after c.stretches.from last rows c.first_of_stretch-found.result c.stretches.invariant.beyond c.first_of_stretch-found.ensures.found (sym c.is_some.ensures ∙ c.if-is_some.false) in
    let none = subst (λ (w : List Row). AllByRecursion (λ r. eqb r.space space ≡ true → last < r.number → to < r.number) w) (c.keyed.ensures ∙ c.self.view_is) c.passed_to-from.ensures.none in
    record {
      up = omega (arith, c.stretches.invariant.up, c.in-Some.ensures.1, c.passed_to-from.ensures.up);
      long = omega (arith, c.saturating_mul-length.ensures, c.stretches.invariant.long);
      beyond = none_between passed c.args.after space last to rows (λ r h. (and_both _ _ (c.requires.asked r h)).0) over none;
    }

pub returns-clause-found : goal.returns-clause-found
returns-clause-found g c = c.first_of_stretch.ensures.found ∙ all_here (g.P.Test.is_passed c.args.test.now) c.args.after c.stretches.from c.args.self.now c.stretches.invariant.up c.stretches.invariant.beyond

use Rattle.std.proofs.Common.{◌≡◌, ℕ, Some, map, ap, sym, subst, ◌∙◌, cond, eqb, arith}
use Rattle.jsp_keyed.proofs.Walking.{found_is_above}
use Rattle.jsp_keyed.proofs.Sweeping.{up_to, next_changes, none_changed, all_changed}
use Rattle.jsp_table.specs.Finding.{AreNumbered}
use Rattle.std.specs.Prelude.{find}
use Rattle.jsp_keyed.specs.Finding.{is_next}
use Rattle.jsp_keyed.proofs.keyed.Keyed.change_all.Goals as goal

pub things-init : goal.things-init
things-init g c = none_changed g.K.Numbering.number_of (g.P.Test.is_passed c.args.test.now) (g.C.Change.changed c.args.change.now) c.args.self.now c.places.ensures.positive

pub things-smaller : goal.things-smaller
things-smaller g c =
    let above = found_is_above g.K.Numbering.number_of (g.P.Test.is_passed c.args.test.now) c.things.last c.things.self c.in-Some.thing.now (sym c.in-Some.ensures.found) in
    omega (arith, above, c.number-last.ensures, c.number-last.type_inv)

pub things-preserved : goal.things-preserved
things-preserved g c =
    let num = g.K.Numbering.number_of in
    let passed = g.P.Test.is_passed c.args.test.now in
    let changed = g.C.Change.changed c.args.change.now in
    let old = c.args.self.now in
    let last = c.things.last in
    let x = c.in-Some.thing.now in
    let is = c.things.invariant in
    let up : AreNumbered num (map (up_to num passed changed last) old) = subst (AreNumbered num) is c.in-Some.ensures.rising in
    let found : Some x ≡ find (is_next num passed last) (map (up_to num passed changed last) old) = c.in-Some.ensures.found ∙ ap (find (is_next num passed last)) is in
    let next = next_changes num passed changed (λ y. (c.requires.keeps y).number) last old x up found in
    let now : c.change.new.self ≡ map (λ w. cond (eqb (num w) c.number-last.result) (changed w) w) (map (up_to num passed changed last) old) = c.change.ensures ∙ ap (map (λ w. cond (eqb (num w) c.number-last.result) (changed w) w)) is in
    subst (λ (n : ℕ). c.change.new.self ≡ map (up_to num passed changed n) old) (sym c.number-last.ensures)
    (now ∙ (ap (λ (n : ℕ). map (λ w. cond (eqb (num w) n) (changed w) w) (map (up_to num passed changed last) old)) c.number-last.ensures ∙ next))

pub returns : goal.returns
returns g c =
    let num = g.K.Numbering.number_of in
    let passed = g.P.Test.is_passed c.args.test.now in
    let changed = g.C.Change.changed c.args.change.now in
    c.things.invariant ∙ all_changed num passed changed c.things.last c.args.self.now (c.in_default.ensures.found ∙ ap (find (is_next num passed c.things.last)) c.things.invariant)

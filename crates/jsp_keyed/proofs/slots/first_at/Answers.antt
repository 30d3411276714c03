use Rattle.std.proofs.Common.{◌≡◌, Some, None, [], ◌∷◌, take, get_or, ap, sym, ◌∙◌, arith, rules}
use Rattle.std.specs.Prelude.{find}
use Rattle.std.proofs.lemmas.Grind.{common_steps}
use Rattle.jsp_table.specs.Places.{living}
use Rattle.jsp_keyed.proofs.Placed.{found_at, living_more, none_passes_more}
use Rattle.jsp_keyed.proofs.slots.first_at.Goals as goal
use Rattle.jsp_keyed.proofs.slots.first_at.Goals.{in-Some+else-passes, in_default}

pub returns-then-passes : goal.returns-then-passes
returns-then-passes g c =
    let p = g.P.Test.is_passed c.args.test.now in
    let b = c.in-Some.thing in
    let is : Some b ≡ get_or c.args.places.now c.places.place-index (Some b) = first_of (search rules, grind (arith, common_steps)) in
    found_at p c.args.places.now c.places.place-index b c.places-test.true is (sym c.passes.ensures ∙ c.if-passes.true) c.places.invariant

pub places-preserved : goal.places-preserved
places-preserved g c =
    let p = g.P.Test.is_passed c.args.test.now in
    let i = c.places.place-index in
    let none : find p (living (c.place-item.result ∷ [])) ≡ None = elim c.match-place.branch [
      | in-Some+else-passes w ↦ first_of (search rules, grind (arith, common_steps))
      | in_default w ↦ first_of (search rules, grind (arith, common_steps))
    ] in
    ap (find p) (living_more c.args.places.now i c.place-item.result c.places-test.true c.place-item.is)
    ∙ none_passes_more p (living (take i c.args.places.now)) (living (c.place-item.result ∷ [])) c.places.invariant none

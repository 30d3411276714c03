use Rattle.std.proofs.Common.{◌≡◌, ◌++◌, [], ◌∷◌, ap, sym, ◌∙◌, arith, rules}
use Rattle.std.proofs.lemmas.Grind.{common_steps}
use Rattle.jsp_table.specs.Places.{living}
use Rattle.jsp_keyed.proofs.Placed.{living_more}
use Rattle.jsp_keyed.proofs.slots.copies_of.Goals as goal
use Rattle.jsp_keyed.proofs.slots.copies_of.Goals.{in-Some+in_ok-copy+in_ok-push, in_default}

pub places-preserved : goal.places-preserved
places-preserved g c =
    let made : c.match-place.copies ≡ c.places.copies ++ living (c.place-item.result ∷ []) = elim c.match-place.branch [
      | in-Some+in_ok-copy+in_ok-push w ↦ first_of (search rules, grind (arith, common_steps))
      | in_default w ↦ first_of (search rules, grind (arith, common_steps))
    ] in
    made ∙ (ap (λ w. w ++ living (c.place-item.result ∷ [])) c.places.invariant ∙ sym (living_more c.args.places.now c.places.place-index c.place-item.result c.places-test.true c.place-item.is))

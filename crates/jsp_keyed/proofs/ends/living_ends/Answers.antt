use Rattle.std.proofs.Common.{◌≡◌, ◌++◌, map, [], ◌∷◌, arith, rules}
use Rattle.std.proofs.lemmas.Grind.{common_steps}
use Rattle.jsp_table.specs.Places.{living}
use Rattle.jsp_keyed.specs.Kept.{item_of}
use Rattle.jsp_keyed.proofs.Ending.{ended_more}
use Rattle.jsp_keyed.proofs.ends.living_ends.Goals as goal
use Rattle.jsp_keyed.proofs.ends.living_ends.Goals.{in-Some+in_ok-push, in_default}

pub places-preserved : goal.places-preserved
places-preserved g c =
    let num = g.K.Numbering.number_of in
    let end = g.K.Keying.end_of in
    let rank = g.K.Keying.rank_of in
    let made : c.match-place.items.items ≡ c.places.items.items ++ map (item_of num end rank) (living (c.place-item.result ∷ [])) = elim c.match-place.branch [
      | in-Some+in_ok-push w ↦ first_of (search rules, grind (arith, common_steps))
      | in_default w ↦ first_of (search rules, grind (arith, common_steps))
    ] in
    ended_more num end rank c.args.places.now c.places.place-index c.place-item.result c.places.items.items c.match-place.items.items c.places-test.true c.place-item.is c.places.invariant made

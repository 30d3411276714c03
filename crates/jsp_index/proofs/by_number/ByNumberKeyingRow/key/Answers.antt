use Rattle.std.proofs.Common.{◌≤◌, [], ◌∷◌, map, refl, sym, ◌∙◌, arith}
use Rattle.std.proofs.lemmas.Grind.{common_steps}
use Rattle.std.proofs.lemmas.List.{get_or-append_right}
use Rattle.jsp_keys.specs.Keys.{space_key, class_key}
use Rattle.jsp_index.specs.Keys.{value_key}
use Rattle.jsp_index.proofs.by_number.ByNumberKeyingRow.key.Goals as goal

pub returns-in_default : goal.returns-in_default
returns-in_default c =
    let seed = c.args.seed in
    let row = c.args.row.now in
    let le : 2 ≤ c.args.place = first_of (omega (arith, c.in_default), grind (arith, common_steps)) in
    c.key_of_place.ensures ∙ sym (get_or-append_right (space_key seed row.space ∷ class_key seed row.space row.entry.class ∷ []) (map (value_key seed row.space) row.entry.fields) 2 c.args.place 0 refl le)

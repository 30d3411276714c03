use Rattle.std.proofs.Common.{◌∙◌, ◌<◌, ℕ, map, length, ap, sym, arith}
use Rattle.std.proofs.lemmas.List.{get_or-map, length-map}
use Rattle.jsp_keys.specs.Keys.{mix}
use Rattle.jsp_keyed.specs.Several.{looked_under}
use Rattle.jsp_keyed.proofs.several.OfSeveralKeys.sought_key.Goals as goal

pub key_if_short-requires : goal.key_if_short-requires
key_if_short-requires g c =
    let lists = c.args.self.now.lists.now in
    let key = λ (k : ℕ). mix k lists.count in
    omega (arith, c.requires, length-map (map key lists.values.now) (looked_under lists.hints.now c.args.self.now.limit), length-map lists.values.now key)

pub returns : goal.returns
returns g c =
    let lists = c.args.self.now.lists.now in
    let values = lists.values.now in
    let place = c.args.place in
    let key = λ (k : ℕ). mix k lists.count in
    let look = looked_under lists.hints.now c.args.self.now.limit in
    let many = length-map values key in
    let lt : place < length values = omega (arith, c.requires, length-map (map key values) look, many) in
    c.key_if_short.ensures ∙ (ap look (sym (get_or-map key values place 0 0 lt)) ∙ sym (get_or-map look (map key values) place 0 0 (omega (arith, lt, many))))

use Rattle.std.proofs.Common.{◌≡◌, ℕ, ◌<◌, ◌++◌, ◌∷◌, [], List, ap, sym, ◌∙◌, subst, arith, rules}
use Rattle.std.proofs.lemmas.Grind.{common_steps}
use Rattle.std.specs.List.{AllByRecursion}
use Rattle.jsp_lease.specs.declared.item.Item.{Item}
use Rattle.jsp_keyed.specs.Kept.{IsNamed, AreKeyed, item_of}
use Rattle.jsp_keyed.proofs.Keeping.{others_keyed, one_comes}
use Rattle.jsp_keyed.proofs.keyed.Keyed.push.Goals as goal

pub invariant_of-self-in_err-append : goal.invariant_of-self-in_err-append
invariant_of-self-in_err-append g c =
    let self = c.self.inside in
    let num = g.K.Numbering.number_of in
    let keys = g.K.Keying.keys_of in
    let end = g.K.Keying.end_of in
    let rank = g.K.Keying.rank_of in
    let below : AllByRecursion (λ x. num x < num c.args.thing) self.table = subst (λ (n : ℕ). AllByRecursion (λ x. num x < n) self.table) c.number-number.ensures c.if-not-is_above.ensures in
    let same : c.reserve.new.self.items ≡ self.ends.items = first_of (search rules, grind (arith, common_steps)) in
    subst (λ (w : List g.row.T.Denot). AreKeyed num keys end rank self.seed c.append.new.hints c.reserve.new.self w) (sym c.in_err-append.ensures.err)
    (others_keyed num keys end rank self.seed self.hints c.append.new.hints self.ends c.reserve.new.self self.table (num c.args.thing) c.append.ensures.others below same c.self.invariant)

pub invariant_of-self-2 : goal.invariant_of-self-2
invariant_of-self-2 g c =
    let self = c.self.inside in
    let num = g.K.Numbering.number_of in
    let keys = g.K.Keying.keys_of in
    let end = g.K.Keying.end_of in
    let rank = g.K.Keying.rank_of in
    let hints = c.append.new.hints in
    let up : 0 < num c.args.thing = first_of (omega (arith, c.if-number-eq0.false, c.number-number.ensures), grind (arith, common_steps)) in
    let named : IsNamed hints (num c.args.thing) (keys self.seed c.args.thing) = first_of (search rules, grind (arith, common_steps)) in
    let below : AllByRecursion (λ x. num x < num c.args.thing) self.table = subst (λ (n : ℕ). AllByRecursion (λ x. num x < n) self.table) c.number-number.ensures c.if-not-is_above.ensures in
    let same : c.reserve.new.self.items ≡ self.ends.items = first_of (search rules, grind (arith, common_steps)) in
    let ends : c.place.new.ends.items ≡ c.reserve.new.self.items ++ item_of num end rank c.args.thing ∷ [] = c.place.ensures.items ∙ ap (λ (i : Item). c.reserve.new.self.items ++ i ∷ []) c.item-item.ensures in
    let made : c.append.new.table ≡ self.table ++ c.args.thing ∷ [] = first_of (search rules, grind (arith, common_steps)) in
    subst (λ (w : List g.row.T.Denot). AreKeyed num keys end rank self.seed hints c.place.new.ends w) (sym made)
    (one_comes num keys end rank self.seed hints c.reserve.new.self c.place.new.ends self.table c.args.thing ends named up
    (others_keyed num keys end rank self.seed self.hints hints self.ends c.reserve.new.self self.table (num c.args.thing) c.append.ensures.others below same c.self.invariant))

use Rattle.std.proofs.Common.{◌≡◌, ℕ, map, sym, subst, arith, rules}
use Rattle.std.proofs.lemmas.Grind.{common_steps}
use Rattle.jsp_table.specs.Places.{living}
use Rattle.jsp_keyed.specs.Coming.{AreAbove}
use Rattle.jsp_keyed.specs.Kept.{item_of}
use Rattle.jsp_keyed.proofs.Ending.{ends_above}
use Rattle.jsp_keyed.proofs.ends.made_anew.Goals as goal

pub place_all-requires-clause-above : goal.place_all-requires-clause-above
place_all-requires-clause-above g c =
    let num = g.K.Numbering.number_of in
    let end = g.K.Keying.end_of in
    let rank = g.K.Keying.rank_of in
    let low : c.reserve.new.self.last ≡ 0 = first_of (search rules, grind (arith, common_steps)) in
    let items : c.deref.result.now ≡ map (item_of num end rank) (living c.args.places.now) = first_of (search rules, grind (arith, common_steps)) in
    subst (λ (n : ℕ). AreAbove n c.deref.result.now) (sym low) (subst (AreAbove 0) (sym items) (ends_above num end rank (living c.args.places.now) c.requires.positive c.requires.rising))

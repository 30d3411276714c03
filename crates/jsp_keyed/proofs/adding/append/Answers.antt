use Rattle.std.proofs.Common.{List, ◌≡◌, ◌++◌, ◌∷◌, [], sym, subst, arith, rules}
use Rattle.std.proofs.lemmas.Grind.{common_steps}
use Rattle.jsp_table.specs.Finding.{AreNumbered}
use Rattle.jsp_keyed.proofs.Keeping.{numbered_more}
use Rattle.jsp_keyed.proofs.adding.append.Goals as goal

pub append-requires : goal.append-requires
append-requires g c =
    let num = g.K.Numbering.number_of in
    let one : c.push.new.self.items ≡ c.args.thing ∷ [] = first_of (search rules, grind (arith, common_steps)) in
    subst (λ (w : List g.row.T.Denot). AreNumbered num (c.args.table.now ++ w)) (sym one) (numbered_more num c.args.table.now c.args.thing c.places.ensures.rising c.requires)

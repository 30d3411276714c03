use Rattle.std.proofs.Common.{List, length, not, ap, sym, ◌∙◌, arith}
use Rattle.std.specs.Prelude.{filter}
use Rattle.jsp_keyed.proofs.Clearing.{IsIn, first_is_in, others_same, one_fewer, none_clear}
use Rattle.jsp_keyed.proofs.keyed.Keyed.remove_all.Goals as goal

pub things-smaller : goal.things-smaller
things-smaller g c =
    let num = g.K.Numbering.number_of in
    let kind = g.P.Test.is_passed c.args.test.now in
    let one : IsIn num kind c.things.self c.in-Some.number = first_is_in num kind c.things.self c.in-Some.number c.in-Some.ensures.rising c.in-Some.ensures.found in
    omega (arith, one_fewer num c.in-Some.number c.things.self one.thing one.there, ap (λ (w : List g.row.T.Denot). length w) c.remove.ensures)

pub things-preserved : goal.things-preserved
things-preserved g c =
    let num = g.K.Numbering.number_of in
    let kind = g.P.Test.is_passed c.args.test.now in
    let one : IsIn num kind c.things.self c.in-Some.number = first_is_in num kind c.things.self c.in-Some.number c.in-Some.ensures.rising c.in-Some.ensures.found in
    ap (filter (λ x. not (kind x))) c.remove.ensures ∙ (others_same num kind c.in-Some.number c.things.self one.kinds ∙ c.things.invariant)

pub returns : goal.returns
returns g c =
    let kind = g.P.Test.is_passed c.args.test.now in
    sym (none_clear g.K.Numbering.number_of kind c.things.self c.in_default.ensures.found) ∙ c.things.invariant

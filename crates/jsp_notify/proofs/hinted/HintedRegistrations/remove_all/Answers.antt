use Rattle.std.proofs.Common.{List, length, not, ap, sym, ◌∙◌, arith}
use Rattle.std.specs.Prelude.{filter}
use Rattle.jsp_model.specs.declared.state.Registration.{Registration}
use Rattle.jsp_keyed.proofs.Clearing.{IsIn, first_is_in, others_same, one_fewer, none_clear}
use Rattle.jsp_notify.proofs.Listening.{number}
use Rattle.jsp_notify.proofs.hinted.HintedRegistrations.remove_all.Goals as goal

pub registrations-smaller : goal.registrations-smaller
registrations-smaller g c =
    let kind = g.P.Test.is_passed c.args.test.now in
    let one : IsIn number kind c.registrations.self c.in-Some.number = first_is_in number kind c.registrations.self c.in-Some.number c.in-Some.ensures.rising c.in-Some.ensures.found in
    omega (arith, one_fewer number c.in-Some.number c.registrations.self one.thing one.there, ap (λ (w : List Registration). length w) c.remove.ensures)

pub registrations-preserved : goal.registrations-preserved
registrations-preserved g c =
    let kind = g.P.Test.is_passed c.args.test.now in
    let one : IsIn number kind c.registrations.self c.in-Some.number = first_is_in number kind c.registrations.self c.in-Some.number c.in-Some.ensures.rising c.in-Some.ensures.found in
    ap (filter (λ r. not (kind r))) c.remove.ensures ∙ (others_same number kind c.in-Some.number c.registrations.self one.kinds ∙ c.registrations.invariant)

pub returns : goal.returns
returns g c =
    let kind = g.P.Test.is_passed c.args.test.now in
    sym (none_clear number kind c.registrations.self c.in_default.ensures.found) ∙ c.registrations.invariant

use Rattle.std.proofs.Common.{List, length, not, ap, sym, ◌∙◌, arith}
use Rattle.std.specs.Prelude.{filter, ◌==◌}
use Rattle.jsp_model.specs.declared.state.Blocked.{Blocked}
use Rattle.jsp_keyed.proofs.Clearing.{IsIn, first_is_in, others_same, one_fewer, none_clear}
use Rattle.jsp_wait.proofs.Least.{number}
use Rattle.jsp_wait.proofs.found.Found.remove_each_of.Goals as goal

pub requests-smaller : goal.requests-smaller
requests-smaller c =
    let kind = λ (b : Blocked). b.session == c.args.session in
    let one : IsIn number kind c.requests.self c.in-Some.number = first_is_in number kind c.requests.self c.in-Some.number c.in-Some.ensures.rising c.in-Some.ensures.found in
    omega (arith, one_fewer number c.in-Some.number c.requests.self one.thing one.there, ap (λ (w : List Blocked). length w) c.remove.ensures)

pub requests-preserved : goal.requests-preserved
requests-preserved c =
    let kind = λ (b : Blocked). b.session == c.args.session in
    let one : IsIn number kind c.requests.self c.in-Some.number = first_is_in number kind c.requests.self c.in-Some.number c.in-Some.ensures.rising c.in-Some.ensures.found in
    ap (filter (λ b. not (kind b))) c.remove.ensures ∙ (others_same number kind c.in-Some.number c.requests.self one.kinds ∙ c.requests.invariant)

pub returns : goal.returns
returns c =
    let kind = λ (b : Blocked). b.session == c.args.session in
    sym (none_clear number kind c.requests.self c.in_default.ensures.found) ∙ c.requests.invariant

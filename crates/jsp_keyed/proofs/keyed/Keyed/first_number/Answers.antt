use Rattle.std.proofs.Common.{option_map, ap, ◌∙◌}
use Rattle.jsp_keyed.proofs.Walking.{start_find}
use Rattle.jsp_keyed.proofs.keyed.Keyed.first_number.Goals as goal

pub returns-in-None-clause-found : goal.returns-in-None-clause-found
returns-in-None-clause-found g c =
    let num = g.K.Numbering.number_of in
    ap (option_map num) (c.in-None.ensures.found ∙ start_find num (g.P.Test.is_passed c.args.test.now) c.args.self.now c.in-None.ensures.positive)

pub returns-in-Some-clause-found : goal.returns-in-Some-clause-found
returns-in-Some-clause-found g c =
    let num = g.K.Numbering.number_of in
    cc (c.number.ensures, ap (option_map num) (c.in-Some.ensures.found ∙ start_find num (g.P.Test.is_passed c.args.test.now) c.args.self.now c.in-Some.ensures.positive))

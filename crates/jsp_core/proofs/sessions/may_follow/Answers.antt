use Rattle.std.proofs.Common.{◌++◌, ◌∷◌, [], ◌<◌, nat_lt, sym, arith}
use Rattle.std.proofs.lemmas.Bool.{OnTrue_from}
use Rattle.std.proofs.lemmas.Bool.Decides.{nat_tests}
use Rattle.jsp_model.specs.declared.state.Session.{Session}
use Rattle.jsp_core.specs.Numbering.{AreRising}
use Rattle.jsp_core.proofs.ByNumber.{all_below, rise_more}
use Rattle.jsp_core.proofs.sessions.may_follow.Goals as goal

pub returns-in-Some : goal.returns-in-Some
returns-in-Some c =
    let sessions = c.args.sessions.now in
    let number_of = λ (k : Session). k.number in
    OnTrue_from (nat_lt c.in-Some.last.now.number c.args.session.number) (AreRising (sessions ++ c.args.session ∷ [])) (λ yes.
    let less : c.in-Some.last.now.number < c.args.session.number = grind (arith, nat_tests, yes) in
    rise_more number_of sessions c.args.session c.requires (all_below number_of c.args.session.number sessions c.in-Some.last.now c.requires (sym c.in-Some.ensures.value) less))

use Rattle.std.proofs.Common.{◌≡◌, ◌∙◌, List, Some, None, sym, subst, arith, rules}
use Rattle.std.specs.Prelude.{find, option_copied}
use Rattle.std.proofs.lemmas.Grind.{common_steps}
use Rattle.jsp_model.specs.declared.state.Registration.{Registration}
use Rattle.jsp_notify.specs.Waiting.{AreNamed}
use Rattle.jsp_notify.proofs.Listening.{none_at, named_at, owed_at}
use Rattle.jsp_notify.proofs.hinted.HintedRegistrations.first_owed.Goals as goal
use Rattle.jsp_table.specs.Hints.{list_of}

pub returns-in-None : goal.returns-in-None
returns-in-None c =
    let self = c.self.inside in
    let none : list_of self.owed c.args.space ≡ None = first_of (search rules, grind (arith, common_steps)) in
    sym (none_at self.owed c.args.space c.args.self.now none (subst (λ (w : List Registration). AreNamed self.owed w) c.self.view_is c.self.invariant))

pub returns-in-Some : goal.returns-in-Some
returns-in-Some c =
    let self = c.self.inside in
    let ns = c.in-Some.numbers.now in
    let some : list_of self.owed c.args.space ≡ Some ns = first_of (search rules, grind (arith, common_steps)) in
    subst (λ (w : List Registration). option_copied c.first_named.result ≡ find (owed_at c.args.space) w) c.self.view_is
    (c.first_named.ensures.found ∙ named_at self.owed c.args.space ns self.registrations some c.first_named.ensures.positive c.self.invariant)

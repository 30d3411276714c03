use Rattle.std.proofs.Common.{◌≡◌, ◌∙◌, rules}
use Rattle.std.specs.Prelude.{is_none}
use Rattle.jsp_notify.proofs.Asked.{owed_or_not}
use Rattle.jsp_notify.proofs.registrations.Registrations.none_is_owed.Goals as goal

pub returns : goal.returns
returns c =
    let none : c.is_none.result ≡ is_none c.next_owed.result = search rules in
    none ∙ owed_or_not c.args.space c.args.self.now c.next_owed.result c.next_owed.ensures.some c.next_owed.ensures.none

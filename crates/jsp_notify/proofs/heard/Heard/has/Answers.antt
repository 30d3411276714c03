use Rattle.std.proofs.Common.{◌≡◌, ◌∙◌, ap, rules}
use Rattle.std.specs.Prelude.{is_some, option_copied, ◌==◌}
use Rattle.jsp_model.specs.declared.state.Registration.{Registration}
use Rattle.jsp_keyed.proofs.Placed.{any_is}
use Rattle.jsp_notify.proofs.heard.Heard.has.Goals as goal

pub returns : goal.returns
returns c =
    let some : c.is_some.result ≡ is_some (option_copied c.get.result) = search rules in
    some ∙ (ap is_some c.get.ensures ∙ any_is (λ (r : Registration). r.number == c.args.number) c.args.self.now)
